use Rattle.std.proofs.Common.{◌≡◌, ◌++◌, ◌∷◌, [], arith}
use Rattle.std.proofs.lemmas.Grind.{common_steps}
use Rattle.qtt_run.proofs.Stepping.{underway-broken, bind-ahead}
use Rattle.qtt_run.proofs.running.Running.bind.Goals as goal

pub returns-then-is_err-clause-turns : goal.returns-then-is_err-clause-turns
returns-then-is_err-clause-turns c = λ o m n i u t a. underway-broken c.args.self.now a

pub returns-clause-turns : goal.returns-clause-turns
returns-clause-turns c = λ o m n i u t a.
    let m = c.args.self.now in
    let pushed : c.push.new.self.items ≡ m.waiting.items ++ c.args.rest ∷ [] = grind (arith, common_steps) in
    c.spend.ensures.turns o i u t
    (record {
      next = λ more z. bind-ahead o i u t m c.args.first c.args.rest a c.push.new.self.items pushed more
          z;
      program = a.stands;
    })
