-- Text put by a printer.
use Rattle.std.specs.Prelude.{◌≡◌, List, ℕ}
use Rattle.play.specs.Text.{Put}
use Rattle.play.specs.declared.text.Printer.{Printer}

-- a text was put where the printer stood, into the same buffer
pub record Puts (p : Printer) (text : List ℕ) (q : Printer) : Type 0 where
  pub put : Put p.out.now p.at text q.out.now q.at
  pub same_buffer : q.out.ghost_name ≡ p.out.ghost_name
