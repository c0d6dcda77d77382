-- The last literal is where a primitive stopped.
use Rattle.std.proofs.Common.{◌≡◌, map, length, ap, sym, ◌∙◌, arith}
use Rattle.std.proofs.lemmas.List.{length-map, map_push}
use Rattle.std.proofs.lemmas.Result.{IfOk-weaker}
use Rattle.qtt_term.specs.Question.{head_step}
use Rattle.qtt_envconv.specs.Closures.{closure}
use Rattle.qtt_envconv.specs.Shapes.{literal}
use Rattle.qtt_envconv.specs.Nodes.{over_in}
use Rattle.qtt_envconv.proofs.Plugging.{over_in-push}
use Rattle.qtt_envconv.proofs.spine.called.Goals as goal

pub returns-in-Some-clause-means : goal.returns-in-Some-clause-means
returns-in-Some-clause-means c =
    let ls = c.pop.new.self.items in
    let l = c.in-Some.last in
    let t = closure c.args.closure in
    let all = map_push literal ls l in
    let behind : c.len-place.result ≡ length (map literal ls) =
    omega (arith, length-map ls literal, c.len-place.ensures) in
    let same = over_in-push (map literal ls) (literal l) t c.len-place.result behind in
    IfOk-weaker c.stopped.result _ _
    (λ h e. e ∙ same ∙ ap (λ ks. over_in ks t) (sym all) ∙ ap (λ ks. over_in (map literal ks) t)
    (sym c.in-Some.ensures.items))
    c.stopped.ensures.means

pub returns-in-Some-clause-ready : goal.returns-in-Some-clause-ready
returns-in-Some-clause-ready c = λ E none.
    let ls = c.pop.new.self.items in
    let l = c.in-Some.last in
    let t = closure c.args.closure in
    let all = map_push literal ls l in
    let behind : c.len-place.result ≡ length (map literal ls) =
    omega (arith, length-map ls literal, c.len-place.ensures) in
    let same = over_in-push (map literal ls) (literal l) t c.len-place.result behind in
    c.stopped.ensures.ready E
    (ap (head_step E) (same ∙ ap (λ ks. over_in ks t) (sym all) ∙ ap (λ ks. over_in (map literal ks) t)
    (sym c.in-Some.ensures.items)) ∙ none)
    tt
