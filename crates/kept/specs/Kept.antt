-- A card with its figures: what a frame makes of them, and where 29 refuses.
use Rattle.std.specs.Prelude.{not, cond, List, [], ◌∷◌, ◌++◌, ℕ, length, Option, Some, None}
use Rattle.layout.specs.declared.Block.{Block}
use Rattle.memory.specs.Memory.{sixteen_of, content_of}
use Rattle.value.specs.Whole.{signed}
use Rattle.value.specs.Block.{encode_of}
use Rattle.session.specs.declared.Session.{Session}
use Rattle.judge.specs.First.{Check, check, first, ruled}
use Rattle.judge.specs.Checks.{frame_checks}
use Rattle.judge.specs.declared.Act.{Act}
use Rattle.judge.specs.declared.Act.TheVariants.{Refused, Authenticated, Shown, TrailerShown, WriteWaits, ValueWaits, Stored, TrailerStored, Loaded, Moved, Halted}
use Rattle.card.specs.Effects.{image_of}
use Rattle.sealed.specs.Sealed.{inner_of}
use Rattle.edition.specs.Edition.{wrong_size}
use Rattle.edition.specs.declared.CardRecord.{CardRecord}
use Rattle.either_card.specs.Either.{card_act_of, sealed_card_act_of, given_for, sealed_card_of, card_reset_of, card_no_session_of}
use Rattle.tally.specs.Change.{in_range, settled_of}
use Rattle.tally.specs.Full.{counts}
use Rattle.tally.specs.declared.change.Figures.{Figures}
use Rattle.kept.specs.Answers.{KeptAnswer}

-- new content of a block settles the figures anew where the block counts
unfoldable pub settled_at : List ℕ → Figures → Block → List ℕ → Option Figures
settled_at image f b new = cond (counts (length image) b) (settled_of f (content_of image b) new) (Some f)

-- an accepted Write or Transfer brings new content; nothing else moves the figures
unfoldable pub settled_by : List ℕ → Figures → Act → List ℕ → Option Figures
settled_by image f (Refused n) frame = Some f
settled_by image f (Authenticated t l) frame = Some f
settled_by image f (Shown b) frame = Some f
settled_by image f (TrailerShown b m) frame = Some f
settled_by image f (WriteWaits b) frame = Some f
settled_by image f (ValueWaits b k) frame = Some f
settled_by image f (Stored b) frame = settled_at image f b (sixteen_of frame)
settled_by image f (TrailerStored b m) frame = Some f
settled_by image f (Loaded v a) frame = Some f
settled_by image f (Moved b v a) frame = settled_at image f b (encode_of (signed v) a)
settled_by image f Halted frame = Some f

-- 29, last of all: the new figures would leave their ranges
abbrev pub lastly : Option Figures → Act → Act
lastly (Some g) act = act
lastly None act = Refused 29

-- the figures afterwards: the new ones, or those that were given
abbrev pub figures_by : Option Figures → Figures → Figures
figures_by (Some g) f = g
figures_by None f = f

-- what is judged before anything else: 11, 12, and 29 for figures outside their ranges
unfoldable pub kept_checks : List ℕ → CardRecord → Figures → Session → List Check
kept_checks image k f s = check 11 (wrong_size k.edition (length image)) ∷ (frame_checks image s ++ (check 29 (not (in_range f)) ∷ []))

-- what an entry's own act of a frame comes to
unfoldable pub kept_act_of : List ℕ → CardRecord → Figures → Session → List ℕ → Act → Act
kept_act_of image k f s frame act = ruled (first (kept_checks image k f s)) (lastly (settled_by image f act frame) act)

-- the answer to what it comes to, and the figures afterwards
unfoldable pub kept_for : List ℕ → CardRecord → Figures → Session → List ℕ → Act → KeptAnswer
kept_for image k f s frame act = record { answer = given_for image k s frame act; figures = figures_by (settled_by image f act frame) f }

-- a bare frame: its act, its answer, and the image after it
abbrev pub bare_kept : List ℕ → CardRecord → Figures → Session → List ℕ → Act
bare_kept image k f s frame = kept_act_of image k f s frame (card_act_of image k s frame)

unfoldable pub kept_answer_of : List ℕ → CardRecord → Figures → Session → List ℕ → KeptAnswer
kept_answer_of image k f s frame = kept_for image k f s frame (bare_kept image k f s frame)

unfoldable pub kept_image_after : List ℕ → CardRecord → Figures → Session → List ℕ → List ℕ
kept_image_after image k f s frame = image_of image s.auth (bare_kept image k f s frame) frame

-- with its checksum: the inner bytes are the frame, and a Read's reply gets its own
abbrev pub sealed_kept : List ℕ → CardRecord → Figures → Session → List ℕ → Act
sealed_kept image k f s frame = kept_act_of image k f s (inner_of frame) (sealed_card_act_of image k s frame)

unfoldable pub sealed_kept_of : KeptAnswer → KeptAnswer
sealed_kept_of a = record { answer = sealed_card_of a.answer; figures = a.figures }

unfoldable pub sealed_kept_answer_of : List ℕ → CardRecord → Figures → Session → List ℕ → KeptAnswer
sealed_kept_answer_of image k f s frame = sealed_kept_of (kept_for image k f s (inner_of frame) (sealed_kept image k f s frame))

unfoldable pub sealed_kept_image_after : List ℕ → CardRecord → Figures → Session → List ℕ → List ℕ
sealed_kept_image_after image k f s frame = image_of image s.auth (sealed_kept image k f s frame) (inner_of frame)

-- a field reset keeps any figures; so does 11 or 12 where there is no session to go by
abbrev pub kept_reset_of : CardRecord → Figures → KeptAnswer
kept_reset_of k f = record { answer = card_reset_of k; figures = f }

abbrev pub kept_no_session_of : CardRecord → Figures → ℕ → KeptAnswer
kept_no_session_of k f bytes = record { answer = card_no_session_of k bytes; figures = f }
