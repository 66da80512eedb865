use Rattle.writing.proofs.Refusing.{writer_refuses_rightly}
use Rattle.writing.proofs.writer_refuses_rightly.Goals as goal

pub returns : goal.returns
returns c = writer_refuses_rightly
