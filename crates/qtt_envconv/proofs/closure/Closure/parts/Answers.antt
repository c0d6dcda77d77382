use Rattle.std.proofs.Common.{sym, ap, subst}
use Rattle.qtt_term.specs.Substitution.{sub}
use Rattle.qtt_term.specs.View.{term}
use Rattle.qtt_envconv.specs.Closures.{values}
use Rattle.qtt_envconv.specs.Nodes.{AreReady}
use Rattle.qtt_envconv.proofs.Openings.{parts-go}
use Rattle.qtt_envconv.proofs.Puts.{ready-push}
use Rattle.qtt_envconv.proofs.closure.Closure.parts.Goals as goal

pub loop-component-preserved : goal.loop-component-preserved
loop-component-preserved c = record {
  means =
      parts-go (values c.args.self.values.now) c.loop-component.parts.items c.push.new.self.items _
      c.loop-component.yielded c.in-Some.component c.loop-component.invariant.means c.in_ok-push.ensures.items
      (ap (λ σ. sub σ (term c.in-Some.component.code.now)) c.in_ok-values.ensures);
  ready = λ E.
      subst (AreReady E) (sym c.in_ok-push.ensures.items)
      (ready-push E c.loop-component.parts.items _ (c.loop-component.invariant.ready E) tt);
}
