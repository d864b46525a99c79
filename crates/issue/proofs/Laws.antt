-- The laws of the directory that the desk writes.
-- Assumes nothing.
use mathlib.Core.Path.{◌≡◌, refl, sym, ◌∙◌, ap}
use mathlib.Core.Bool.{Bool, true, false, cond}
use mathlib.Core.List.{List, ◌∷◌, ◌++◌}
use Prim.Native.Nat.{ℕ, ◌*◌, ◌-◌, ◌/◌, ◌%◌, ◌≤◌, ◌<◌}
use native.Mathlib.Omega.{arith}
use lib.Dec.{eqb}
use lib.ListN.{length, get_or, replicate}
use lib.Seq.{take_at, get_or-set_other}
use borrow.Author.Tests.{ne_eqb}
use Rattle.layout.specs.Layout.{block_at, sectors_of}
use Rattle.layout.specs.declared.Block.{Block}
use Rattle.memory.specs.Memory.{content_of, byte_of}
use Rattle.directory.specs.Checksum.{shifted, shifts, byte_on, bytes_on, checksum_of}
use Rattle.std.specs.Prelude.{Option, Some, None, Result, Ok, Err}
use Rattle.directory.specs.Directory.{version_of, numbers_of, entries_of}
use Rattle.directory.specs.Lookup.{entry_count, is_right, judged, intact_version, lookup_of}
use Rattle.directory.specs.Every.{HeldAt, ReadAll}
use Rattle.directory.specs.declared.Version.{Version}
use Rattle.directory.specs.declared.Version.TheVariants.{One, Two}
use Rattle.directory.specs.declared.Refusal.{Refusal}
use Rattle.directory.specs.declared.Refusal.TheVariants.{WrongChecksum}
use Rattle.directory.proofs.Numbers.{numbers_length}
use Rattle.directory.proofs.Every.{counted, every_entry, entry_read}
use Rattle.issue.specs.Write.{version_for, version_to_write, part_bytes, directory_bytes, directory_blocks, filled, digit_of, announcing, announced, written_as, written, written_image}
use Rattle.issue.specs.Read.{infos_of, bytes_of, list_of, listed, read_of, entries_read, read_list}
use Rattle.issue.specs.Laws.{Bytes, infos_for, ReadsBack, Held, Lowest, FindsLowest, numbers_read, SameAgain, NotAmong, OthersStay, KeysStay, BitsStay, RefusedStays, LengthStays, ByLength, FifteenNumbers, FromDelivery, FromZero}
use Rattle.issue.specs.declared.read.Listing.{Listing}
use Rattle.issue.specs.declared.WriteRefusal.{WriteRefusal}
use Rattle.issue.proofs.Choice.{not_ok, Fits, fits_accepted, accepted_fits, needed_some}
use Rattle.issue.proofs.Blocks.{filled_length, filled_other, filled_back}
use Rattle.issue.proofs.Lists.{bytes_length}
use Rattle.issue.proofs.Versions.{directory_length, has_trailer, blocks_apart, trailer_apart, announcing_bits, announced_length, announced_other, announced_held, announced_trailer, announced_byte, announces, whole_of, whole_held, Back, back}
use Rattle.issue.proofs.Again.{bytes_back, announces_version, written_same}

-- one version, whichever it is
module _ (image infos numbers : List ℕ) (v : Version) (f : Fits (sectors_of (length image)) (length numbers) v) where
  abbrev middle : List ℕ
  middle = filled image (directory_blocks v) (directory_bytes infos numbers v)

  abbrev last : List ℕ
  last = announced middle (digit_of v)

  is_last : written_image image infos numbers ≡ last
  unfolding written_image written written_as
  is_last = rw (fits_accepted (length image) (length numbers) v f)

  middle_length : length middle ≡ length image
  middle_length = filled_length image (directory_blocks v) (directory_bytes infos numbers v)

  last_length : length last ≡ length image
  last_length = announced_length middle (digit_of v) ∙ middle_length

  enough : 16 ≤ sectors_of (length image)
  enough = omega (arith, f.room, needed_some v)

  has_it : sectors_of (length middle) ≡ sectors_of (length image)
  has_it = ap sectors_of middle_length

  version_back : version_of last ≡ Some v
  unfolding version_of
  version_back =
      rw (last_length, announced_byte middle (digit_of v) (has_trailer (length middle) (omega (arith, has_it, enough))))
      (announces (byte_of middle (block_at 3) 9) (sectors_of (length image)) v f.room)

  whole_back : whole_of last v ≡ directory_bytes infos numbers v
  whole_back =
      sym (whole_held last v)
      ∙ announced_held middle (digit_of v) (directory_blocks v) (trailer_apart v)
      ∙ filled_back image (directory_blocks v) (directory_bytes infos numbers v) (blocks_apart image v f.room) (directory_length infos numbers v f.amount)

  all_back : Back last infos numbers v
  all_back = back last infos numbers v f.amount whole_back

  sound : intact_version last ≡ Ok v
  unfolding intact_version judged
  sound = rw (last_length, ne_eqb (sectors_of (length image)) 0 (λ z. omega (arith, enough)), version_back, all_back.sound)

  entries : entries_of last v ≡ numbers_of numbers
  entries = all_back.entries_back

  read_back : Bytes numbers
      → (read_of last ≡ Ok (record { version = v; infos = infos_for infos v })) × (read_list last ≡ numbers ++ replicate (76 - length numbers) 0)
  unfolding read_of listed read_list entries_read list_of
  read_back b =
      let n : length (numbers_of numbers) ≡ entry_count v = numbers_length (entry_count v) numbers f.amount in (
        rw (sound, all_back.infos_back),
        rw (sound, all_back.entries_back, bytes_back (entry_count v) numbers f.amount b, n, ← f.amount),
      )

  -- what the lookup reads at a place is what the list has there
  there : (wanted place : ℕ) → HeldAt last v wanted place → Held (numbers_of numbers) wanted place
  there wanted place h =
      let t : place ≤ length (numbers_of numbers) = rw entries at h.to in
      record { from = h.from; to = t; held = rw entries at (sym (entry_read last v place h.from h.to) ∙ h.held) }

  here : (wanted place : ℕ) → Held (numbers_of numbers) wanted place → HeldAt last v wanted place
  here wanted place h =
      let t : place ≤ length (entries_of last v) = rw entries h.to in
      record { from = h.from; to = t; held = entry_read last v place h.from t ∙ rw entries h.held }

  found : (wanted : ℕ) → ReadAll last v wanted (lookup_of last wanted) → Lowest (numbers_of numbers) wanted (lookup_of last wanted)
  found wanted (ReadAll.lowest place h first a) =
      Lowest.lowest place (there wanted place h) (λ other o. (first other (here wanted other o)).1) a
  found wanted (ReadAll.nowhere none a) = Lowest.nowhere (λ other o. none other (here wanted other o)) (a ∙ rw entries)

  others : (j : Block) → NotAmong j.0 (3 ∷ directory_blocks v) → content_of last j ≡ content_of image j
  others j a = announced_other middle (digit_of v) j a.0 ∙ filled_other image (directory_blocks v) (directory_bytes infos numbers v) j a.1

  kept : content_of middle (block_at 3) ≡ content_of image (block_at 3)
  kept = filled_other image (directory_blocks v) (directory_bytes infos numbers v) (block_at 3) (trailer_apart v)

  keys : (i : ℕ) → (i ≡ 9 → ⊥) → byte_of last (block_at 3) i ≡ byte_of image (block_at 3) i
  unfolding byte_of
  keys i ne =
      ap (λ (l : List ℕ). get_or l i 0) (announced_trailer middle (digit_of v) (has_trailer (length middle) (omega (arith, has_it, enough))))
      ∙ get_or-set_other (content_of middle (block_at 3)) 9 i (announcing (byte_of middle (block_at 3) 9) (digit_of v)) 0 ne
      ∙ ap (λ (l : List ℕ). get_or l i 0) kept

  digit_small : digit_of v < 4
  digit_small = go v
    where
      go : (v : Version) → digit_of v < 4
      go One = omega arith
      go Two = omega arith

  bits : byte_of last (block_at 3) 9 / 4 % 32 ≡ byte_of image (block_at 3) 9 / 4 % 32
  unfolding byte_of
  bits =
      ap (λ (x : ℕ). x / 4 % 32) (announced_byte middle (digit_of v) (has_trailer (length middle) (omega (arith, has_it, enough))))
      ∙ (announcing_bits (byte_of middle (block_at 3) 9) (digit_of v) digit_small).2
      ∙ ap (λ (l : List ℕ). get_or l 9 0 / 4 % 32) kept

-- a call that is refused changes nothing
unwritten : (image infos numbers : List ℕ) (r : WriteRefusal) → version_to_write (length image) (length numbers) ≡ Err r → written_image image infos numbers ≡ image
unfolding written_image written
unwritten image infos numbers r e = rw e

pub refused_stays : RefusedStays
refused_stays image infos numbers r e = unwritten image infos numbers r e

pub reads_back : ReadsBack
reads_back image infos numbers v b w =
    let f = accepted_fits (length image) (length numbers) v w in
    rw (is_last image infos numbers v f) (read_back image infos numbers v f b)

pub finds_lowest : FindsLowest
finds_lowest image infos numbers v wanted w =
    let f = accepted_fits (length image) (length numbers) v w in
    rw (is_last image infos numbers v f)
    (found image infos numbers v f wanted (every_entry (last image infos numbers v f) v wanted (sound image infos numbers v f)))

-- and what holds of either holds of every call
module _ (image infos numbers : List ℕ) (P : List ℕ → Type 0) where
  either : ((v : Version) → version_to_write (length image) (length numbers) ≡ Ok v → (f : Fits (sectors_of (length image)) (length numbers) v) → P (last image infos numbers v f))
      → P image → P (written_image image infos numbers)
  either done same = go (version_to_write (length image) (length numbers)) refl
    where
      go : (r : Result Version WriteRefusal) → version_to_write (length image) (length numbers) ≡ r → P (written_image image infos numbers)
      go (Ok v) e = let f = accepted_fits (length image) (length numbers) v e in rw (is_last image infos numbers v f) (done v e f)
      go (Err r) e = rw (unwritten image infos numbers r e) same

pub others_stay : OthersStay
others_stay image infos numbers j a =
    either image infos numbers (λ (l : List ℕ). content_of l j ≡ content_of image j) (λ v e f. others image infos numbers v f j (a v e)) refl

pub keys_stay : KeysStay
keys_stay image infos numbers i ne =
    either image infos numbers (λ (l : List ℕ). byte_of l (block_at 3) i ≡ byte_of image (block_at 3) i) (λ v e f. keys image infos numbers v f i ne) refl

pub bits_stay : BitsStay
bits_stay image infos numbers =
    either image infos numbers (λ (l : List ℕ). byte_of l (block_at 3) 9 / 4 % 32 ≡ byte_of image (block_at 3) 9 / 4 % 32) (λ v e f. bits image infos numbers v f) refl

pub length_stays : LengthStays
length_stays image infos numbers =
    either image infos numbers (λ (l : List ℕ). length l ≡ length image) (λ v e f. last_length image infos numbers v f) refl

-- read and written again
pub record Accepted (image : List ℕ) (v : Version) : Type 0 where
  pub announced_it : version_of image ≡ Some v
  pub right : is_right image v ≡ true

accepted : (image : List ℕ) (v : Version) → intact_version image ≡ Ok v → Accepted image v
unfolding intact_version judged
accepted image v r = go (eqb (sectors_of (length image)) 0) refl (version_of image) refl
  where
    right_one : (w : Version) (t : Bool) → is_right image w ≡ t → version_of image ≡ Some w → cond t (Ok w) (Err WrongChecksum) ≡ Ok v → Accepted image v
    right_one w true e g k = let q : w ≡ v = cc in rw (← q) (record { announced_it = g; right = e })
    right_one w false e g k = absurd (not_ok k)

    go : (t : Bool) → eqb (sectors_of (length image)) 0 ≡ t → (o : Option Version) → version_of image ≡ o → Accepted image v
    go true e o g = absurd (not_ok (rw e at r))
    go false e None g = absurd (not_ok (rw (e, g) at r))
    go false e (Some w) g = right_one w (is_right image w) refl g (rw (e, g) at r)

module _ (image : List ℕ) (byte : Bytes image) (v : Version) (r : intact_version image ≡ Ok v) where
  abbrev listing : Listing
  listing = record { version = v; infos = infos_of image v }

  list_read : numbers_read image listing ≡ bytes_of (entries_of image v)
  unfolding read_list entries_read list_of
  list_read =
      let l : length (bytes_of (entries_of image v)) ≡ 2 * entry_count v = bytes_length (entries_of image v) ∙ ap (λ (n : ℕ). 2 * n) (counted image v) in
      rw r (take_at (bytes_of (entries_of image v)) _ (2 * entry_count v) l)

  fits_again : Fits (sectors_of (length image)) (length (bytes_of (entries_of image v))) v
  fits_again =
      record {
        amount = bytes_length (entries_of image v) ∙ ap (λ (n : ℕ). 2 * n) (counted image v);
        room = (announces_version image byte v (accepted image v r).announced_it).room;
      }

  same : (version_to_write (length image) (length (numbers_read image listing)) ≡ Ok v) × (written_image image (infos_of image v) (numbers_read image listing) ≡ image)
  unfolding written_image written
  same =
      let a = accepted image v r in
      let f = fits_accepted (length image) (length (bytes_of (entries_of image v))) v fits_again in
      (rw list_read f, rw (list_read, f) (written_same image byte v a.announced_it a.right))

pub same_again : SameAgain
unfolding read_of listed
same_again image told byte e = go (intact_version image) refl
  where
    go : (i : Result Version Refusal) → intact_version image ≡ i
        → (version_to_write (length image) (length (numbers_read image told)) ≡ Ok told.version) × (written_image image told.infos (numbers_read image told) ≡ image)
    go (Ok v) r =
        let q : record { version = v; infos = infos_of image v } ≡ told = let k : Ok (record { version = v; infos = infos_of image v }) ≡ Ok told = rw r at e in cc in
        rw (← q) (same image byte v r)
    go (Err n) r = absurd (not_ok (rw r at e))

-- the examples
pub by_length : ByLength
unfolding version_to_write version_for sectors_of
by_length = (refl, refl, refl, refl, refl, refl)

pub fifteen_numbers : FifteenNumbers
unfolding directory_bytes part_bytes checksum_of bytes_on byte_on shifts shifted
fifteen_numbers = refl

pub from_delivery : FromDelivery
unfolding announcing
from_delivery = (refl, refl)

pub from_zero : FromZero
unfolding announcing
from_zero = (refl, refl)
