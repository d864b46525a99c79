-- The examples, by computation.
-- Assumes nothing.
use mathlib.Core.Path.{refl}
use Rattle.layout.specs.Layout.{sectors_of, blocks_in, blocks_of, has_sector, has_block, sector_of, trailer_of, is_trailer, group_at, group_of}
use Rattle.memory.specs.Memory.{sixteen_of, content_of, store_of}
use Rattle.access.specs.Bits.{access_bytes_of, well_formed, bit_of, group_bits, bits_of}
use Rattle.access.specs.Rights.{data_table, trailer_table, data_row, trailer_row, allows_of, keys_for, may_of, writable_of, readable_of, mute_of}
use Rattle.value.specs.Block.{encode_of, decode_of, agreeing}
use Rattle.value.specs.Sum.{total_of, is_negative, ruled_of}
use Rattle.session.specs.Session.{coherent_of, in_sector}
use Rattle.frame.specs.Command.{byte_in, eight_bytes_of, two_bytes_of, first_of, command_of}
use Rattle.judge.specs.First.{first, ruled}
use Rattle.judge.specs.Checks.{no_card, incoherent, no_block, other_sector, is_blocked, is_key, wrong_key, is_forbidden, trailer_right, right_of, has_right, writable_by, no_right, no_value, kind_column, memory_checks, checks_of, authenticate_checks, frame_checks}
use Rattle.judge.specs.Judge.{total_for, load_of, applied_of, move_of, shown_of, stored_of, done_of, commanded_of, judge_of}
use Rattle.card.specs.Effects.{number_of, refused_sign, sign_of, reply_of, session_of, image_of}
use Rattle.card.specs.Step.{answered}
use Rattle.checksum.specs.Checksum.{shifted, shifts, byte_on, bytes_on, crc_of, two_of}
use Rattle.sealed.specs.Sealed.{inner_of, seal_in, unsealed, sealed_reply, sealed_of}
use Rattle.edition.specs.Edition.{usage_of}
use Rattle.either_card.specs.Personal.{is_personal, choosing, acknowledged}
use Rattle.either_card.specs.Either.{card_act_of, sealed_card_act_of, given_for, card_answer_of, card_image_after, sealed_card_of, sealed_card_answer_of, sealed_card_image_after}
use Rattle.tally.specs.Change.{in_range, count_by, sum_by, kept_of, settled_of}
use Rattle.tally.specs.Full.{counts, share_at, total_to, opened_of}
use Rattle.kept.specs.Kept.{settled_at, settled_by, kept_checks, kept_act_of, kept_for, kept_answer_of, kept_image_after, sealed_kept_of, sealed_kept_answer_of, sealed_kept_image_after}
use Rattle.runs.specs.Run.{answer_to, image_upon, after, run_of, answers_of, act_of}
use Rattle.runs.specs.Watch.{noted, always}
use Rattle.runs.specs.Kept.{kept_answer_to, figures_upon, kept_image_upon, kept_after, kept_run_of, kept_answers_of}
use Rattle.demands.specs.Example.{purse_card, purse_events, PurseRun, large_card, large_events, LargeRun, ride_card, ride_events, RideRun, ev1_ride_card, ev1_ride_events, Ev1RideRun, figures_along, total_card, total_events, TotalRun, full_events, FullRun}

pub purse_run : PurseRun
unfolding sectors_of blocks_in blocks_of has_sector has_block sector_of trailer_of is_trailer group_at group_of sixteen_of content_of store_of access_bytes_of well_formed bit_of group_bits bits_of data_table trailer_table data_row trailer_row allows_of keys_for may_of writable_of readable_of mute_of encode_of decode_of agreeing total_of is_negative ruled_of coherent_of in_sector byte_in eight_bytes_of two_bytes_of first_of command_of first ruled no_card incoherent no_block other_sector is_blocked is_key wrong_key is_forbidden trailer_right right_of has_right no_right no_value kind_column memory_checks checks_of authenticate_checks frame_checks writable_by total_for load_of applied_of move_of shown_of stored_of done_of commanded_of judge_of number_of refused_sign sign_of reply_of session_of image_of answered shifted shifts byte_on bytes_on crc_of two_of inner_of seal_in unsealed sealed_reply sealed_of usage_of is_personal choosing acknowledged card_act_of sealed_card_act_of given_for card_answer_of card_image_after sealed_card_of sealed_card_answer_of sealed_card_image_after answer_to image_upon after run_of answers_of act_of noted always purse_card purse_events
purse_run = record { begins = refl; unwritten = refl; own = refl; answered = refl; counted = refl; ends = refl }

pub large_run : LargeRun
unfolding sectors_of blocks_in blocks_of has_sector has_block sector_of trailer_of is_trailer group_at group_of sixteen_of content_of store_of access_bytes_of well_formed bit_of group_bits bits_of data_table trailer_table data_row trailer_row allows_of keys_for may_of writable_of readable_of mute_of encode_of decode_of agreeing total_of is_negative ruled_of coherent_of in_sector byte_in eight_bytes_of two_bytes_of first_of command_of first ruled no_card incoherent no_block other_sector is_blocked is_key wrong_key is_forbidden trailer_right right_of has_right no_right no_value kind_column memory_checks checks_of authenticate_checks frame_checks writable_by total_for load_of applied_of move_of shown_of stored_of done_of commanded_of judge_of number_of refused_sign sign_of reply_of session_of image_of answered shifted shifts byte_on bytes_on crc_of two_of inner_of seal_in unsealed sealed_reply sealed_of usage_of is_personal choosing acknowledged card_act_of sealed_card_act_of given_for card_answer_of card_image_after sealed_card_of sealed_card_answer_of sealed_card_image_after answer_to image_upon after run_of answers_of act_of noted always large_card large_events
large_run = record { begins = refl; unwritten = refl; own = refl; answered = refl; counted = refl; ends = refl }

pub ride_run : RideRun
unfolding sectors_of blocks_in blocks_of has_sector has_block sector_of trailer_of is_trailer group_at group_of sixteen_of content_of store_of access_bytes_of well_formed bit_of group_bits bits_of data_table trailer_table data_row trailer_row allows_of keys_for may_of writable_of readable_of mute_of encode_of decode_of agreeing total_of is_negative ruled_of coherent_of in_sector byte_in eight_bytes_of two_bytes_of first_of command_of first ruled no_card incoherent no_block other_sector is_blocked is_key wrong_key is_forbidden trailer_right right_of has_right no_right no_value kind_column memory_checks checks_of authenticate_checks frame_checks writable_by total_for load_of applied_of move_of shown_of stored_of done_of commanded_of judge_of number_of refused_sign sign_of reply_of session_of image_of answered shifted shifts byte_on bytes_on crc_of two_of inner_of seal_in unsealed sealed_reply sealed_of usage_of is_personal choosing acknowledged card_act_of sealed_card_act_of given_for card_answer_of card_image_after sealed_card_of sealed_card_answer_of sealed_card_image_after answer_to image_upon after run_of answers_of act_of noted always ride_card ride_events
ride_run =
    record { rides = record { opened = refl; first = refl; second = refl; third = refl }; unwritten = refl; answered = refl; largest = refl; risen = refl }

pub ev1_ride_run : Ev1RideRun
unfolding sectors_of blocks_in blocks_of has_sector has_block sector_of trailer_of is_trailer group_at group_of sixteen_of content_of store_of access_bytes_of well_formed bit_of group_bits bits_of data_table trailer_table data_row trailer_row allows_of keys_for may_of writable_of readable_of mute_of encode_of decode_of agreeing total_of is_negative ruled_of coherent_of in_sector byte_in eight_bytes_of two_bytes_of first_of command_of first ruled no_card incoherent no_block other_sector is_blocked is_key wrong_key is_forbidden trailer_right right_of has_right no_right no_value kind_column memory_checks checks_of authenticate_checks frame_checks writable_by total_for load_of applied_of move_of shown_of stored_of done_of commanded_of judge_of number_of refused_sign sign_of reply_of session_of image_of answered shifted shifts byte_on bytes_on crc_of two_of inner_of seal_in unsealed sealed_reply sealed_of usage_of is_personal choosing acknowledged card_act_of sealed_card_act_of given_for card_answer_of card_image_after sealed_card_of sealed_card_answer_of sealed_card_image_after answer_to image_upon after run_of answers_of act_of noted always ev1_ride_card ev1_ride_events
ev1_ride_run =
    record { rides = record { opened = refl; first = refl; second = refl; third = refl }; unwritten = refl; answered = refl; values = refl; chosen = refl; largest = refl; risen = refl }

pub total_run : TotalRun
unfolding sectors_of blocks_in blocks_of has_sector has_block sector_of trailer_of is_trailer group_at group_of sixteen_of content_of store_of access_bytes_of well_formed bit_of group_bits bits_of data_table trailer_table data_row trailer_row allows_of keys_for may_of writable_of readable_of mute_of encode_of decode_of agreeing total_of is_negative ruled_of coherent_of in_sector byte_in eight_bytes_of two_bytes_of first_of command_of first ruled no_card incoherent no_block other_sector is_blocked is_key wrong_key is_forbidden trailer_right right_of has_right no_right no_value kind_column memory_checks checks_of authenticate_checks frame_checks writable_by total_for load_of applied_of move_of shown_of stored_of done_of commanded_of judge_of number_of refused_sign sign_of reply_of session_of image_of answered shifted shifts byte_on bytes_on crc_of two_of inner_of seal_in unsealed sealed_reply sealed_of usage_of is_personal choosing acknowledged card_act_of sealed_card_act_of given_for card_answer_of card_image_after sealed_card_of sealed_card_answer_of sealed_card_image_after answer_to image_upon after run_of answers_of act_of in_range count_by sum_by kept_of settled_of counts share_at total_to opened_of settled_at settled_by kept_checks kept_act_of kept_for kept_answer_of kept_image_after sealed_kept_of sealed_kept_answer_of sealed_kept_image_after kept_answer_to figures_upon kept_image_upon kept_after kept_run_of kept_answers_of figures_along total_card total_events
total_run = record { opened = refl; run = record { answered = refl; counted = refl; summed = refl }; anew = refl }

pub full_run : FullRun
unfolding sectors_of blocks_in blocks_of has_sector has_block sector_of trailer_of is_trailer group_at group_of sixteen_of content_of store_of access_bytes_of well_formed bit_of group_bits bits_of data_table trailer_table data_row trailer_row allows_of keys_for may_of writable_of readable_of mute_of encode_of decode_of agreeing total_of is_negative ruled_of coherent_of in_sector byte_in eight_bytes_of two_bytes_of first_of command_of first ruled no_card incoherent no_block other_sector is_blocked is_key wrong_key is_forbidden trailer_right right_of has_right no_right no_value kind_column memory_checks checks_of authenticate_checks frame_checks writable_by total_for load_of applied_of move_of shown_of stored_of done_of commanded_of judge_of number_of refused_sign sign_of reply_of session_of image_of answered shifted shifts byte_on bytes_on crc_of two_of inner_of seal_in unsealed sealed_reply sealed_of usage_of is_personal choosing acknowledged card_act_of sealed_card_act_of given_for card_answer_of card_image_after sealed_card_of sealed_card_answer_of sealed_card_image_after answer_to image_upon after run_of answers_of act_of in_range count_by sum_by kept_of settled_of counts share_at total_to opened_of settled_at settled_by kept_checks kept_act_of kept_for kept_answer_of kept_image_after sealed_kept_of sealed_kept_answer_of sealed_kept_image_after kept_answer_to figures_upon kept_image_upon kept_after kept_run_of kept_answers_of figures_along total_card full_events
full_run = record { answered = refl; counted = refl; summed = refl }
