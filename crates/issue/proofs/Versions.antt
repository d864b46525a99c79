-- The directory of a version: its bytes, its blocks and its announcing byte, over whichever version it is.
-- Assumes nothing.
use mathlib.Core.Path.{◌≡◌, refl, sym, ◌∙◌, ap, ap₂}
use mathlib.Core.Bool.{true}
use mathlib.Core.List.{List, [], ◌∷◌, ◌++◌, append-nil, append_assoc}
use Prim.Native.Nat.{ℕ, ◌*◌, ◌/◌, ◌%◌, ◌≤◌, ◌<◌}
use native.Mathlib.Omega.{arith}
use lib.ListN.{length, take, drop, set, get_or, length-append, length-set, length-drop, take-append-drop}
use lib.Seq.{take_at, drop_at, get_or-set_same, length-take-le}
use borrow.Author.Tests.{eq-eqb, ne_eqb, le-leb, lt-ltb}
use Rattle.layout.specs.Layout.{block_at, sectors_of, blocks_of, has_block, sector_of}
use Rattle.layout.specs.declared.Block.{Block}
use Rattle.layout.proofs.Laws.{block_exists}
use Rattle.memory.specs.Memory.{content_of, byte_of}
use Rattle.memory.proofs.Laws.{content_length, store_length, store_back, store_other}
use Rattle.directory.specs.Checksum.{checksum_of}
use Rattle.directory.specs.Directory.{announced_of, part_of, right_bytes, is_intact, info_of, numbers_of, entries_in, entries_of}
use Rattle.std.specs.Prelude.{Some}
use Rattle.directory.specs.Lookup.{entry_count, is_right}
use Rattle.directory.specs.declared.Version.{Version}
use Rattle.directory.specs.declared.Version.TheVariants.{One, Two}
use Rattle.directory.specs.declared.Part.TheVariants.{First, Second}
use Rattle.directory.proofs.Numbers.{numbers_append}
use Rattle.issue.specs.Write.{part_bytes, directory_bytes, directory_blocks, digit_of, announcing, announced}
use Rattle.issue.specs.Read.{infos_of}
use Rattle.issue.specs.Laws.{infos_for, NotAmong}
use Rattle.issue.proofs.Choice.{needed_of}
use Rattle.issue.proofs.Blocks.{held, Apart}
use Rattle.issue.proofs.Filling.{part_length}

-- its bytes fill its blocks
pub directory_length : (infos numbers : List ℕ) (v : Version) → length numbers ≡ 2 * entry_count v → length (directory_bytes infos numbers v) ≡ 16 * length (directory_blocks v)
unfolding directory_bytes directory_blocks
directory_length infos numbers One e = omega (arith, part_length (get_or infos 0 0) numbers)
directory_length infos numbers Two e =
    let n : length (take 30 numbers) ≡ 30 = length-take-le 30 numbers (omega arith) in
    let m : length (drop 30 numbers) ≡ 46 = length-drop 30 numbers ∙ omega arith in
    simp (length-append, part_length, n, m)

-- which are there, and no two of them the same
has : (bytes n : ℕ) → (sector_of (block_at n)).0 < sectors_of bytes → has_block bytes (block_at n) ≡ true
unfolding has_block blocks_of
has bytes n h = lt-ltb n _ (block_exists (sectors_of bytes) (block_at n) h)

pub has_trailer : (bytes : ℕ) → 0 < sectors_of bytes → has_block bytes (block_at 3) ≡ true
unfolding sector_of
has_trailer bytes h = has bytes 3 h

pub blocks_apart : (image : List ℕ) (v : Version) → needed_of v ≤ sectors_of (length image) → Apart image (directory_blocks v)
unfolding directory_blocks sector_of
blocks_apart image One h =
    (has (length image) 1 (omega arith), (((λ z. omega arith), tt), (has (length image) 2 (omega arith), (tt, tt))))
blocks_apart image Two h =
    let there : (n : ℕ) → (sector_of (block_at n)).0 < 40 → has_block (length image) (block_at n) ≡ true = λ n l. has (length image) n (omega arith) in (
      there 1 (omega arith),
      (
        ((λ z. omega arith), ((λ z. omega arith), ((λ z. omega arith), ((λ z. omega arith), tt)))),
        (
          there 2 (omega arith),
          (
            ((λ z. omega arith), ((λ z. omega arith), ((λ z. omega arith), tt))),
            (
              there 64 (omega arith),
              (
                ((λ z. omega arith), ((λ z. omega arith), tt)),
                (there 65 (omega arith), (((λ z. omega arith), tt), (there 66 (omega arith), (tt, tt)))),
              ),
            ),
          ),
        ),
      ),
    )

-- and the trailer of sector 0 is none of them
pub trailer_apart : (v : Version) → NotAmong 3 (directory_blocks v)
unfolding directory_blocks
trailer_apart One = ((λ z. omega arith), ((λ z. omega arith), tt))
trailer_apart Two =
    ((λ z. omega arith), ((λ z. omega arith), ((λ z. omega arith), ((λ z. omega arith), ((λ z. omega arith), tt)))))

-- the announcing byte
pub announcing_bits : (b n : ℕ) → n < 4 → (128 ≤ announcing b n) × (announcing b n % 4 ≡ n) × (announcing b n / 4 % 32 ≡ b / 4 % 32)
unfolding announcing
announcing_bits b n h =
    let k = b % 128 / 4 in
    let e : b / 4 % 32 ≡ k = omega arith in
    let s : k < 32 = omega arith in
    (omega arith, omega arith, rw e (omega arith))

module _ (image : List ℕ) (n : ℕ) where
  abbrev trailer : List ℕ
  trailer = set (content_of image (block_at 3)) 9 (announcing (byte_of image (block_at 3) 9) n)

  trailer_length : length trailer ≡ 16
  trailer_length = simp length-set (content_length image (block_at 3))

  pub announced_length : length (announced image n) ≡ length image
  unfolding announced
  announced_length = store_length image (block_at 3) trailer trailer_length

  pub announced_other : (j : Block) → (3 ≡ j.0 → ⊥) → content_of (announced image n) j ≡ content_of image j
  unfolding announced
  announced_other j ne = store_other image (block_at 3) trailer trailer_length j ne

  pub announced_held : (ns : List ℕ) → NotAmong 3 ns → held (announced image n) ns ≡ held image ns
  announced_held [] a = refl
  announced_held (m ∷ ns) a = ap₂ (λ (x y : List ℕ). x ++ y) (announced_other (block_at m) (λ z. a.0 (sym z))) (announced_held ns a.1)

  pub announced_trailer : has_block (length image) (block_at 3) ≡ true → content_of (announced image n) (block_at 3) ≡ trailer
  unfolding announced
  announced_trailer h = store_back image (block_at 3) trailer trailer_length h

  pub announced_byte : has_block (length image) (block_at 3) ≡ true → byte_of (announced image n) (block_at 3) 9 ≡ announcing (byte_of image (block_at 3) 9) n
  unfolding byte_of
  announced_byte h =
      ap (λ (l : List ℕ). get_or l 9 0) (announced_trailer h)
      ∙ get_or-set_same (content_of image (block_at 3)) 9 (announcing (byte_of image (block_at 3) 9) n) 0 (omega (arith, content_length image (block_at 3)))

-- a byte that was made so announces the version
pub announces : (b sectors : ℕ) (v : Version) → needed_of v ≤ sectors → announced_of (announcing b (digit_of v)) sectors ≡ Some v
unfolding announced_of
announces b sectors One l =
    let a = announcing_bits b 1 (omega arith) in
    rw (le-leb 128 (announcing b 1) a.0, eq-eqb (announcing b 1 % 4) 1 a.1, le-leb 16 sectors l)
announces b sectors Two l =
    let a = announcing_bits b 2 (omega arith) in
    rw (
      le-leb 128 (announcing b 2) a.0,
      ne_eqb (announcing b 2 % 4) 1 (λ z. omega (arith, a.1)),
      eq-eqb (announcing b 2 % 4) 2 a.1,
      le-leb 40 sectors l,
    )

-- all bytes of a version's parts
abbrev pub whole_of : List ℕ → Version → List ℕ
whole_of image One = part_of image First
whole_of image Two = part_of image First ++ part_of image Second

pub whole_held : (image : List ℕ) (v : Version) → held image (directory_blocks v) ≡ whole_of image v
unfolding part_of directory_blocks
whole_held image One = simp append-nil
whole_held image Two = simp (append-nil, append_assoc)

-- two lists, taken apart at the same length
apart : (xs ys us vs : List ℕ) → length xs ≡ length us → xs ++ ys ≡ us ++ vs → (xs ≡ us) × (ys ≡ vs)
apart xs ys us vs l e = (
  sym (take_at xs ys (length us) l) ∙ ap (take (length us)) e ∙ take_at us vs (length us) refl,
  sym (drop_at xs ys (length us) l) ∙ ap (drop (length us)) e ∙ drop_at us vs (length us) refl,
)

pub first_length : (image : List ℕ) → length (part_of image First) ≡ 32
unfolding part_of
first_length image = simp (length-append, content_length)

pub second_length : (image : List ℕ) → length (part_of image Second) ≡ 48
unfolding part_of
second_length image = simp (length-append, content_length)

-- a part that was made is right, and has the info byte and the numbers that it was made of
right_part : (info : ℕ) (numbers : List ℕ) → right_bytes (part_bytes info numbers) ≡ true
unfolding right_bytes part_bytes
right_part info numbers = eq-eqb (checksum_of (info ∷ numbers)) (checksum_of (info ∷ numbers)) refl

-- so a version whose bytes are those that were made
pub record Back (last infos numbers : List ℕ) (v : Version) : Type 0 where
  pub sound : is_right last v ≡ true
  pub infos_back : infos_of last v ≡ infos_for infos v
  pub entries_back : entries_of last v ≡ numbers_of numbers

module _ (last infos numbers : List ℕ) where
  pub back : (v : Version) → length numbers ≡ 2 * entry_count v → whole_of last v ≡ directory_bytes infos numbers v → Back last infos numbers v
  unfolding directory_bytes is_right is_intact infos_of info_of entries_of entries_in part_bytes
  back One l e = record { sound = rw (e, right_part (get_or infos 0 0) numbers); infos_back = rw e; entries_back = rw e }
  back Two l e =
      let n : length (take 30 numbers) ≡ 30 = length-take-le 30 numbers (omega arith) in
      let m : length (part_bytes (get_or infos 0 0) (take 30 numbers)) ≡ 32 = part_length (get_or infos 0 0) (take 30 numbers) ∙ rw n in
      let a =
      apart (part_of last First) (part_of last Second) (part_bytes (get_or infos 0 0) (take 30 numbers)) (part_bytes (get_or infos 1 0) (drop 30 numbers))
      (first_length last ∙ sym m) e in
      record {
        sound = rw (a.0, a.1, right_part (get_or infos 0 0) (take 30 numbers), right_part (get_or infos 1 0) (drop 30 numbers));
        infos_back = rw (a.0, a.1);
        entries_back =
            rw (a.0, a.1)
            (sym (numbers_append 15 (take 30 numbers) (drop 30 numbers) n) ∙ ap numbers_of (take-append-drop 30 numbers));
      }
