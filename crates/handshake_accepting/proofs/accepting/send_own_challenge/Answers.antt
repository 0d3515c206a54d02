use Rattle.handshake_rules.proofs.MessageLaws.{challenge_size}
use native.Mathlib.Omega.{arith}
use Rattle.handshake_accepting.proofs.accepting.send_own_challenge.Goals as goal

pub returns-clause-bound : goal.returns-clause-bound
returns-clause-bound c =
    let d = c.own.result in
    omega (arith, c.send_challenge.ensures.value, challenge_size d.flags c.args.challenge d.creation d.name.now, d.short)
