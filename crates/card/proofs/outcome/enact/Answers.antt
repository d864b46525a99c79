-- Each case gives the answer of its act; a Write and a Transfer store their block, nothing else stores.
use mathlib.Core.Path.{◌∙◌}
use Rattle.card.specs.Effects.{number_of, sign_of, reply_of, session_of, image_of}
use Rattle.card.specs.Step.{answered}
use Rattle.card.proofs.outcome.enact.Goals as goal

pub returns-in-Refused : goal.returns-in-Refused
unfolding answered number_of sign_of reply_of session_of image_of
returns-in-Refused c = record { value = c.refusal.ensures ∙ rw c.in-Refused.is; image_after = rw c.in-Refused.is }

pub returns-in-Authenticated : goal.returns-in-Authenticated
unfolding answered number_of sign_of reply_of session_of image_of
returns-in-Authenticated c = record { value = c.ack.ensures ∙ rw (c.logged_in.ensures, c.in-Authenticated.is); image_after = rw c.in-Authenticated.is }

pub returns-in-Shown : goal.returns-in-Shown
unfolding answered number_of sign_of reply_of session_of image_of
returns-in-Shown c = record { value = c.accepted.ensures ∙ rw (c.content.ensures, c.in-Shown.is); image_after = rw c.in-Shown.is }

pub returns-in-TrailerShown : goal.returns-in-TrailerShown
unfolding answered number_of sign_of reply_of session_of image_of
returns-in-TrailerShown c = record { value = c.accepted-in-TrailerShown.ensures ∙ rw (c.shown.ensures, c.content-trailer.ensures, c.in-TrailerShown.is); image_after = rw c.in-TrailerShown.is }

pub returns-in-WriteWaits : goal.returns-in-WriteWaits
unfolding answered number_of sign_of reply_of session_of image_of
returns-in-WriteWaits c = record { value = c.ack-in-WriteWaits.ensures ∙ rw (c.awaiting.ensures, c.in-WriteWaits.is); image_after = rw c.in-WriteWaits.is }

pub returns-in-ValueWaits : goal.returns-in-ValueWaits
unfolding answered number_of sign_of reply_of session_of image_of
returns-in-ValueWaits c = record { value = c.ack-in-ValueWaits.ensures ∙ rw (c.awaiting-in-ValueWaits.ensures, c.in-ValueWaits.is); image_after = rw c.in-ValueWaits.is }

pub returns-in-Stored : goal.returns-in-Stored
unfolding answered number_of sign_of reply_of session_of image_of
returns-in-Stored c = record { value = c.ack-in-Stored.ensures ∙ rw (c.awaiting-in-Stored.ensures, c.in-Stored.is); image_after = c.store.ensures ∙ rw (c.in-Stored.is, c.sixteen.ensures) }

pub returns-in-TrailerStored : goal.returns-in-TrailerStored
unfolding answered number_of sign_of reply_of session_of image_of
returns-in-TrailerStored c = record { value = c.ack-in-TrailerStored.ensures ∙ rw (c.awaiting-in-TrailerStored.ensures, c.in-TrailerStored.is); image_after = c.store-in-TrailerStored.ensures ∙ rw (c.in-TrailerStored.is, c.written.ensures, c.content-old.ensures, c.sixteen-in-TrailerStored.ensures) }

pub returns-in-Loaded : goal.returns-in-Loaded
unfolding answered number_of sign_of reply_of session_of image_of
returns-in-Loaded c = record { value = c.silent.ensures ∙ rw (c.loaded.ensures, c.in-Loaded.is); image_after = rw c.in-Loaded.is }

pub returns-in-Moved : goal.returns-in-Moved
unfolding answered number_of sign_of reply_of session_of image_of
returns-in-Moved c = record { value = c.ack-in-Moved.ensures ∙ rw c.in-Moved.is; image_after = c.store-in-Moved.ensures ∙ rw (c.in-Moved.is, c.encode.ensures) }

pub returns-in-Halted : goal.returns-in-Halted
unfolding answered number_of sign_of reply_of session_of image_of
returns-in-Halted c = record { value = c.silent-in-Halted.ensures ∙ rw (c.fresh.ensures, c.in-Halted.is); image_after = rw c.in-Halted.is }
