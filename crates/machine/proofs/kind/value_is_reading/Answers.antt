use Rattle.std.proofs.Common.{◌+◌, ◌*◌, ◌<◌, [], ◌∷◌, get_or, ap, ◌∙◌, arith}
use Rattle.systems.specs.Values.{word_value}
use Rattle.machine.specs.StateMaps.{by, next_state, states_at, stay, stay_at, then, then_at}
use Rattle.machine.specs.Theorems.{ValueIsReading}
use Rattle.machine.proofs.kind.value_is_reading.Goals as goal

read : ValueIsReading
read next ok [] all s h = stay_at s h
read next ok (a ∷ w) all s h =
    let a26 : a < 26 = all.0 in
    let low : next_state next s a < 8 = ok (26 * s + a) (omega arith) in
    let rest = word_value (λ a. by (λ s. next_state next s a)) stay then w in
    then_at (by (λ s. next_state next s a)) rest s h
    ∙ ap (λ k. get_or rest.to k 0) (states_at (λ s. next_state next s a) s h low)
    ∙ read next ok w all.1 (next_state next s a) low

pub returns : goal.returns
returns c = read
