-- Sessions and their records, both ways.
-- Assumes nothing.
use Rattle.std.proofs.Common.{None, Some}
use mathlib.Core.Path.{◌≡◌, refl, sym, ap}
use mathlib.Core.Bool.{Bool, true, false, cond}
use mathlib.Core.List.{List}
use Prim.Native.Nat.{ℕ, ◌<◌, ◌/◌, ◌%◌}
use native.Mathlib.Omega.{arith}
use lib.Dec.{eqb}
use lib.ListN.{get_or}
use Rattle.access.specs.declared.rights.Letter.TheVariants.{KeyA, KeyB}
use Rattle.value.specs.Block.{word_of}
use Rattle.value.proofs.Blocks.{four_back, same_refl, same_eq}
use Rattle.session.specs.Session.{Auth}
use Rattle.session.specs.declared.Kind.TheVariants.{Increment, Decrement, Restore}
use Rattle.session.specs.declared.Stage.{Stage}
use Rattle.session.specs.declared.Stage.TheVariants.{Idle, WriteWaits, ValueWaits}
use Rattle.session.specs.Session.{Register}
use Rattle.session.specs.declared.Session.{Session}
use Rattle.record.specs.Record.{who_code, sector_byte, stage_code, block_byte, full_code, address_byte, value_bits, record_of, auth_by, stage_by, register_by, value_in, named_by, is_record, found_in, stray_of, session_in, session_from}

auth_back : (auth : Auth) → auth_by (who_code auth) (sector_byte auth) ≡ auth
unfolding auth_by
auth_back None = refl
auth_back (Some (t, KeyA)) = refl
auth_back (Some (t, KeyB)) = refl

stage_back : (stage : Stage) → stage_by (stage_code stage) (block_byte stage) ≡ stage
unfolding stage_by
stage_back Idle = refl
stage_back (WriteWaits b) = refl
stage_back (ValueWaits Increment b) = refl
stage_back (ValueWaits Decrement b) = refl
stage_back (ValueWaits Restore b) = refl

register_back : (g : Register) (v : ℕ) → v ≡ value_bits g → register_by (full_code g) (address_byte g) v ≡ g
unfolding register_by
register_back None v e = refl
register_back (Some (w, a)) v e = ap (λ (x : ℕ). Some (x, a)) e

module _ (s : Session) (fits : value_bits s.register < 4294967296) where
  -- the record of a session names that session
  named_back : named_by (record_of s) ≡ s
  unfolding named_by record_of
  named_back = λ i. record {
    auth = auth_back s.auth i;
    stage = stage_back s.stage i;
    register = register_back s.register (value_in (record_of s)) (four_back (value_bits s.register) fits) i;
  }

  -- what a session is written as is a record
  pub written_record : is_record (record_of s) ≡ true
  unfolding is_record
  written_record = rw (named_back) (same_refl (record_of s))

  -- every session written reads back
  pub reads_back : session_from (record_of s) ≡ s
  unfolding session_from found_in
  reads_back = rw (written_record) named_back

module _ (bytes : List ℕ) where
  -- what is read is written as the same bytes
  pub writes_back : is_record bytes ≡ true → record_of (session_from bytes) ≡ bytes
  unfolding session_from found_in is_record record_of
  writes_back e = rw e (sym (same_eq bytes (record_of (named_by bytes)) e))

  -- and for bytes that are no record there is one session
  pub no_record : is_record bytes ≡ false → session_from bytes ≡ stray_of
  unfolding session_from found_in
  no_record e = rw e

  -- the value of whatever is read has 32 bits
  pub from_small : value_bits (session_from bytes).register < 4294967296
  unfolding session_from found_in is_record named_by record_of register_by
  from_small = go (is_record bytes) refl
    where
      four_small : (n : ℕ) → word_of (n % 256) (n / 256 % 256) (n / 65536 % 256) (n / 16777216 % 256) < 4294967296
      four_small n = omega arith

      value_small : is_record bytes ≡ true → value_in bytes < 4294967296
      value_small e =
          let q : value_in bytes ≡ value_in (record_of (named_by bytes)) = ap value_in (same_eq bytes (record_of (named_by bytes)) e) in
          omega (arith, q, four_small (value_bits (named_by bytes).register))

      either : (t : Bool) → value_in bytes < 4294967296 → value_bits (cond t (Some (value_in bytes, get_or bytes 5 0)) None) < 4294967296
      either true h = h
      either false h = omega arith

      go : (t : Bool) → is_record bytes ≡ t → value_bits (session_in (cond t (Some (named_by bytes)) None)).register < 4294967296
      go true e = either (eqb (get_or bytes 4 0) 1) (value_small e)
      go false e = omega arith

  -- the session of twelve bytes, by what was found in them
  pub session_found : (s : Session) → found_in bytes ≡ Some s → session_from bytes ≡ s
  unfolding session_from
  session_found s e = rw e

  pub session_missing : found_in bytes ≡ None → session_from bytes ≡ stray_of
  unfolding session_from
  session_missing e = rw e
