-- The starred examples hold, by computation.
-- Assumes nothing.
use mathlib.Core.Path.{refl}
use Rattle.layout.specs.Layout.{sector_of, trailer_of, is_trailer, group_at, group_of}
use Rattle.access.specs.Bits.{well_formed, bit_of, group_bits, bits_of}
use Rattle.value.specs.Block.{encode_of, decode_of, agreeing}
use Rattle.value.specs.Sum.{total_of, is_negative, ruled_of}
use Rattle.judge.specs.Judge.{total_for, load_of}
use Rattle.card.specs.Effects.{number_of}
use Rattle.demands.specs.Starred.{starred, answer, Right}

pub starred_right : Right starred
unfolding starred answer sector_of trailer_of is_trailer group_at group_of well_formed bit_of group_bits bits_of encode_of decode_of agreeing total_of is_negative ruled_of total_for load_of number_of
starred_right = refl
