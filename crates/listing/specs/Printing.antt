-- What is printed into a lent buffer. Assumes nothing.
use Rattle.std.specs.Prelude.{◌≡◌, ◌+◌, ◌≤◌, length}
use Rattle.model.specs.Buffers.{Put}
use Rattle.text.specs.Pieces.{Bytes}
use Rattle.listing.specs.declared.printer.Printer.{Printer}

-- the bytes fit behind what is printed
abbrev pub Room : Printer → Bytes → Type 0
Room p bytes = p.end + length bytes ≤ length p.out.now

-- the bytes are printed into the same buffer, and what stands behind them is as it was
pub record Printed (old : Printer) (bytes : Bytes) (new : Printer) : Type 0 where
  pub same : new.out.ghost_name ≡ old.out.ghost_name
  pub long : length new.out.now ≡ length old.out.now
  pub put : Put old.out.now old.end bytes new.out.now new.end
