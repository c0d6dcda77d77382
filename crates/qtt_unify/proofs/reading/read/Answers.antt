use Rattle.std.proofs.Common.{◌≡◌, [], sym, ap, subst, ◌∙◌}
use Rattle.qtt_term.specs.Globals.{env}
use Rattle.qtt_term.specs.Question.{Head}
use Rattle.qtt_term.specs.View.{term}
use Rattle.qtt_unify.specs.declared.reading.Round.TheVariants as round
use Rattle.qtt_unify.specs.Unread.{whole, plug_all, ArePending, RoundTo}
use Rattle.qtt_unify.proofs.Unread.{goes-same, goes-then, read-ends}
use Rattle.qtt_unify.proofs.reading.read.Goals as goal

pub loop-read-init : goal.loop-read-init
loop-read-init g c =
    let E = env c.args.env.now in
    let none : c.new.result.items ≡ [] = c.new.ensures.items in
    let copied : term c.in_ok-copy.field-0 ≡ term c.args.t.now = c.in_ok-copy.ensures in
    record {
      goes_on = goes-same E c.args.n (term c.args.t.now) (plug_all c.new.result.items (term c.in_ok-copy.field-0))
          (ap (λ ps. plug_all ps (term c.in_ok-copy.field-0)) none ∙ copied);
      around = subst (λ ps. ArePending E ps) (sym none) tt;
    }

pub returns-in-Read : goal.returns-in-Read
returns-in-Read g c =
    let E = env c.args.env.now in
    let r = c.loop-read.reading in
    let t : RoundTo E c.loop-read.left (whole r) (round.Read c.in-Read.read) =
    subst (λ s. RoundTo E c.loop-read.left (whole r) s) c.in-Read.is c.in_ok-read.ensures in
    let on = c.loop-read.invariant.goes_on 0 in
    (on.0, on.1 ∙ read-ends E c.loop-read.left on.0 (whole r) t.1 ∙ ap (λ s. Head.done s on.0) (sym t.0))

pub returns-in-Spent : goal.returns-in-Spent
returns-in-Spent g c =
    let E = env c.args.env.now in
    let r = c.loop-read.reading in
    let t : RoundTo E c.loop-read.left (whole r) round.Spent =
    subst (λ s. RoundTo E c.loop-read.left (whole r) s) c.in-Spent.is c.in_ok-read.ensures in
    let on = c.loop-read.invariant.goes_on 0 in
    on.1 ∙ t on.0

pub loop-read-smaller : goal.loop-read-smaller
loop-read-smaller g c =
    let E = env c.args.env.now in
    let r = c.loop-read.reading in
    let t : RoundTo E c.loop-read.left (whole r) (round.Contracted c.in-Contracted.fewer c.in-Contracted.next) =
    subst (λ s. RoundTo E c.loop-read.left (whole r) s) c.in-Contracted.is c.in_ok-read.ensures in
    t.2

pub loop-read-preserved : goal.loop-read-preserved
loop-read-preserved g c =
    let E = env c.args.env.now in
    let r = c.loop-read.reading in
    let t : RoundTo E c.loop-read.left (whole r) (round.Contracted c.in-Contracted.fewer c.in-Contracted.next) =
    subst (λ s. RoundTo E c.loop-read.left (whole r) s) c.in-Contracted.is c.in_ok-read.ensures in
    record {
      goes_on = goes-then E c.args.n c.loop-read.left c.in-Contracted.fewer (term c.args.t.now) (whole r)
          (whole c.in-Contracted.next) c.loop-read.invariant.goes_on t.0;
      around = t.1;
    }
