-- Checksums that are printed elsewhere: the note's example, the empty directories, and the string by which checksums are compared.
-- Assumes nothing.
use mathlib.Core.Path.{◌≡◌, refl}
use mathlib.Core.List.{List, [], ◌∷◌}
use Prim.Native.Nat.{ℕ}
use lib.ListN.{replicate}
use Rattle.directory.specs.Checksum.{shifted, shifts, byte_on, bytes_on, checksum_of}

-- the info byte 01h and fifteen numbers
abbrev pub note : List ℕ
note =
    0x01 ∷ 0x01 ∷ 0x08 ∷ 0x01 ∷ 0x08 ∷ 0x01 ∷ 0x08 ∷ 0x00 ∷ 0x00 ∷ 0x00 ∷ 0x00 ∷ 0x00 ∷ 0x00 ∷ 0x04 ∷ 0x00 ∷ 0x03
    ∷ 0x10 ∷ 0x03 ∷ 0x10 ∷ 0x02 ∷ 0x10 ∷ 0x02 ∷ 0x10 ∷ 0x00 ∷ 0x00 ∷ 0x00 ∷ 0x00 ∷ 0x00 ∷ 0x00 ∷ 0x11 ∷ 0x30 ∷ []

pub example_note : checksum_of note ≡ 0x89
unfolding checksum_of bytes_on byte_on shifts shifted
example_note = refl

pub example_empty : checksum_of (replicate 31 0) ≡ 0xCE
unfolding checksum_of bytes_on byte_on shifts shifted
example_empty = refl

pub example_empty_second : checksum_of (replicate 47 0) ≡ 0x16
unfolding checksum_of bytes_on byte_on shifts shifted
example_empty_second = refl

pub example_123456789 : checksum_of (0x31 ∷ 0x32 ∷ 0x33 ∷ 0x34 ∷ 0x35 ∷ 0x36 ∷ 0x37 ∷ 0x38 ∷ 0x39 ∷ []) ≡ 0x99
unfolding checksum_of bytes_on byte_on shifts shifted
example_123456789 = refl
