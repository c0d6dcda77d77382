use Rattle.std.proofs.Common.{◌≡◌, ◌≤◌, subst, ◌∙◌, refl, arith}
use Rattle.qtt_term.specs.Globals.{env}
use Rattle.qtt_unify.specs.Unread.{whole, unread, GoesOn, TakesTo}
use Rattle.qtt_unify.specs.declared.reading.Round.TheVariants as round
use Rattle.qtt_unify.proofs.reading.one_round.Goals as goal

pub loop-read-init : goal.loop-read-init
loop-read-init g c = record { whole = refl; around = c.requires }

pub returns-in-Read : goal.returns-in-Read
returns-in-Read g c =
    let E = env c.args.env.now in
    let r = c.loop-read.reading in
    let t : TakesTo E c.args.n (whole r) (unread r) (round.Read c.in-Read.read) =
    subst (λ s. TakesTo E c.args.n (whole r) (unread r) s) c.in-Read.is c.in_ok-read.ensures in
    subst (λ s. TakesTo E c.args.n s (unread r) (round.Read c.in-Read.read)) c.loop-read.invariant.whole t

pub returns-in-Spent : goal.returns-in-Spent
returns-in-Spent g c =
    let E = env c.args.env.now in
    let r = c.loop-read.reading in
    let t : TakesTo E c.args.n (whole r) (unread r) round.Spent =
    subst (λ s. TakesTo E c.args.n (whole r) (unread r) s) c.in-Spent.is c.in_ok-read.ensures in
    subst (λ s. TakesTo E c.args.n s (unread r) round.Spent) c.loop-read.invariant.whole t

pub returns-then-fewer-n : goal.returns-then-fewer-n
returns-then-fewer-n g c =
    let E = env c.args.env.now in
    let r = c.loop-read.reading in
    let t : TakesTo E c.args.n (whole r) (unread r) (round.Contracted c.in-Contracted.fewer c.in-Contracted.next) =
    subst (λ s. TakesTo E c.args.n (whole r) (unread r) s) c.in-Contracted.is c.in_ok-read.ensures in (
      subst (λ s. GoesOn E c.args.n s c.in-Contracted.fewer (whole c.in-Contracted.next))
          c.loop-read.invariant.whole t.0,
      t.1,
      c.if-fewer-n.true,
    )

pub loop-read-smaller : goal.loop-read-smaller
loop-read-smaller g c =
    let E = env c.args.env.now in
    let r = c.loop-read.reading in
    let t : TakesTo E c.args.n (whole r) (unread r) (round.Contracted c.in-Contracted.fewer c.in-Contracted.next) =
    subst (λ s. TakesTo E c.args.n (whole r) (unread r) s) c.in-Contracted.is c.in_ok-read.ensures in
    let less : c.in-Contracted.fewer ≤ c.args.n = t.2 in
    let same : c.in-Contracted.fewer ≡ c.args.n = omega (arith, less, c.if-fewer-n.false) in
    (t.3 same).1

pub loop-read-preserved : goal.loop-read-preserved
loop-read-preserved g c =
    let E = env c.args.env.now in
    let r = c.loop-read.reading in
    let t : TakesTo E c.args.n (whole r) (unread r) (round.Contracted c.in-Contracted.fewer c.in-Contracted.next) =
    subst (λ s. TakesTo E c.args.n (whole r) (unread r) s) c.in-Contracted.is c.in_ok-read.ensures in
    let less : c.in-Contracted.fewer ≤ c.args.n = t.2 in
    let same : c.in-Contracted.fewer ≡ c.args.n = omega (arith, less, c.if-fewer-n.false) in
    record { whole = (t.3 same).0 ∙ c.loop-read.invariant.whole; around = t.1 }
