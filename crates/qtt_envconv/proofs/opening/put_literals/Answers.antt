use Rattle.std.proofs.Common.{◌≡◌, ℕ, ◌≤◌, List, length, set, get_or, sym, ◌∙◌, ap, subst, arith, length-set}
use Rattle.std.specs.Prelude.{pos}
use Rattle.qtt_term.specs.View.{side_by_side}
use Rattle.qtt_envconv.specs.declared.literal.Literal.{Literal}
use Rattle.qtt_envconv.specs.declared.literal.Literal.TheVariants as literal_code
use Rattle.qtt_envconv.specs.declared.node.Node as node_code
use Rattle.qtt_envconv.specs.declared.node.Node.TheVariants as code
use Rattle.qtt_envconv.specs.Nodes.{nodes, AreReady}
use Rattle.qtt_envconv.proofs.Puts.{put-set, put-past, ready-set, literals-go}
use Rattle.qtt_envconv.proofs.opening.put_literals.Goals as goal
use Rattle.qtt_envconv.proofs.opening.put_literals.Goals.{then-i-len, else-i-len}

pub loop-i-preserved : goal.loop-i-preserved
loop-i-preserved c =
    let i : ℕ = c.loop-i.i in
    let ls : List Literal = c.args.literals.now in
    let d : Literal = literal_code.Int (pos 0) in
    let n : node_code.Node = code.Literal (get_or ls i d) in
    let now : List node_code.Node = c.loop-i.parts.items in
    elim c.if-i-len.branch [
      | then-i-len w ↦
          let is : c.if-i-len.parts.items ≡ set now i n = ap (λ v. v.items) w.parts-is in
          record {
            means =
                literals-go now c.if-i-len.parts.items _ ls i d (omega arith) c.loop-i.invariant.means
                (ap (λ ms. side_by_side (nodes ms)) is ∙ put-set now i n);
            count = ap length is ∙ length-set now i n ∙ c.loop-i.invariant.count;
            ready = λ E hs. subst (AreReady E) (sym is) (ready-set E now i n (c.loop-i.invariant.ready E hs) tt);
          }
      | else-i-len w ↦
          let is : c.if-i-len.parts.items ≡ now = ap (λ v. v.items) w.parts-is in
          let past : length now ≤ i = omega arith in
          record {
            means =
                literals-go now c.if-i-len.parts.items _ ls i d (omega arith) c.loop-i.invariant.means
                (ap (λ ms. side_by_side (nodes ms)) is ∙ put-past now i n past);
            count = ap length is ∙ c.loop-i.invariant.count;
            ready = λ E hs. subst (AreReady E) (sym is) (c.loop-i.invariant.ready E hs);
          }
    ]
