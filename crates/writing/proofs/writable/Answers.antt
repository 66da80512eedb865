use Rattle.writing.proofs.Final.{writable}
use Rattle.writing.proofs.writable.Goals as goal

pub returns : goal.returns
returns c = writable
