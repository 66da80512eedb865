use Rattle.std.proofs.Common.{Err, codes, refl, rules, subst}
use Rattle.model.specs.Buffers.{Put}
use Rattle.listing.specs.Refusals.{read_number}
use Rattle.readout.specs.Replies.{refused_line}
use Rattle.text.specs.Refusals.{refusal_text}
use Rattle.readout.proofs.Added.{refused_said}
use Rattle.readout.proofs.replying.Readout.reply.Goals as goal

pub returns-in-Err-clause-answer : goal.returns-in-Err-clause-answer
returns-in-Err-clause-answer c =
    let why = c.in-Err.refusal in
    let text = refusal_text (read_number why) (refused_line why) (codes "-") in
    let put = subst (λ t. Put c.args.out.now 0 t c.put.new.out c.put.result) c.text_of_line.ensures c.put.ensures.put in
    (search rules, (Err text, refused_said c.args.request c.args.input.now why c.in-Err.ensures.answer.0, (text, refl, put)))
