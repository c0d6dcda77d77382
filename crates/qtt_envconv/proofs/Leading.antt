-- What the comparison of one pair leads to.
use Rattle.std.proofs.Common.{◌≡◌, ℕ, ◌+◌, ◌-◌, ◌<◌, List, ◌++◌, length, true, false, eqb, refl, sym, ◌∙◌, ap, subst, arith}
use mathlib.Core.Path.{ap₂}
use Rattle.std.proofs.lemmas.Bool.{eqb-true, and_parts}
use Rattle.std.proofs.lemmas.List.{length-map}
use Rattle.qtt_term.specs.Term.{Term, var, node, size}
use Rattle.qtt_term.specs.Signature.{Env}
use Rattle.qtt_term.specs.Question.{Head, head, same, same_form, same_outline, beside, weight, weights, within_count}
use Rattle.qtt_term.specs.View.{side_by_side}
use Rattle.qtt_confluence.specs.Heads.{Outline, outline, parts}
use Rattle.qtt_conv.proofs.Contracting.{size-side_by_side}
use Rattle.qtt_conv.proofs.Leading.{pair-splits, pair-differs, parts-lighter, made-within}
use Rattle.qtt_conv.proofs.Outlines.{outline-tested, outline-apart}
use Rattle.qtt_envconv.specs.declared.node.Node as node_code
use Rattle.qtt_envconv.specs.declared.pair.Outcome.{Outcome}
use Rattle.qtt_envconv.specs.declared.pair.Outcome.TheVariants as outcome
use Rattle.qtt_envconv.specs.declared.shape.Shape.{Shape}
use Rattle.qtt_envconv.specs.Shapes.{form}
use Rattle.qtt_envconv.specs.Nodes.{nodes}
use Rattle.qtt_envconv.specs.Pairs.{LeadsTo, HeadsLeadTo}

-- ---- outlines
nodes-size : (ns : List node_code.Node) → size (side_by_side (nodes ns)) ≡ length ns
nodes-size ns = size-side_by_side (nodes ns) ∙ length-map ns _

outline-form : (s : Shape) (ns : List node_code.Node) →
    outline (node (form s) (side_by_side (nodes ns))) ≡ Outline.form (form s) (length ns)
outline-form s ns = ap (Outline.form (form s)) (nodes-size ns)

-- forms with the same fixed parts and as many components
pub forms-same : (s r : Shape) (ls rs : List node_code.Node) (h g : Term) →
    node (form s) (side_by_side (nodes ls)) ≡ h → node (form r) (side_by_side (nodes rs)) ≡ g → form s ≡ form r →
    length ls ≡ length rs → same_outline h g ≡ true
forms-same s r ls rs h g e f same_forms as_many =
    outline-tested h g (sym (ap outline e) ∙ outline-form s ls ∙ ap₂ Outline.form same_forms as_many ∙
    sym (outline-form r rs) ∙ ap outline f)

forms-outline : (s r : Shape) (ls rs : List node_code.Node) (h g : Term) → node (form s) (side_by_side (nodes ls)) ≡ h →
    node (form r) (side_by_side (nodes rs)) ≡ g → outline h ≡ outline g →
    Outline.form (form s) (length ls) ≡ Outline.form (form r) (length rs)
forms-outline s r ls rs h g e f o =
    sym (outline-form s ls) ∙ ap outline e ∙ o ∙ sym (ap outline f) ∙ outline-form r rs

pub forms-apart : (s r : Shape) (ls rs : List node_code.Node) (h g : Term) →
    node (form s) (side_by_side (nodes ls)) ≡ h → node (form r) (side_by_side (nodes rs)) ≡ g →
    (form s ≡ form r → length ls ≡ length rs → ⊥) → same_outline h g ≡ false
forms-apart s r ls rs h g e f d =
    outline-apart h g
    (λ o.
    let both = forms-outline s r ls rs h g e f o in
    let same_forms : form s ≡ form r = cc both in
    let as_many : length ls ≡ length rs = cc both in
    d same_forms as_many)

pub variable-form-apart : (i : ℕ) (s : Shape) (ns : List node_code.Node) (h g : Term) → var i ≡ h →
    node (form s) (side_by_side (nodes ns)) ≡ g → same_outline h g ≡ false
variable-form-apart i s ns h g e f =
    outline-apart h g
    (λ o.
    let both : Outline.variable i ≡ Outline.form (form s) (length ns) =
    ap outline e ∙ o ∙ sym (ap outline f) ∙ outline-form s ns in
    absurd (cc both))

pub form-variable-apart : (s : Shape) (ns : List node_code.Node) (i : ℕ) (h g : Term) →
    node (form s) (side_by_side (nodes ns)) ≡ h → var i ≡ g → same_outline h g ≡ false
form-variable-apart s ns i h g e f =
    outline-apart h g
    (λ o.
    let both : Outline.form (form s) (length ns) ≡ Outline.variable i =
    sym (outline-form s ns) ∙ ap outline e ∙ o ∙ sym (ap outline f) in
    absurd (cc both))

-- ---- what one pair leads to
parts-size : (h g : Term) → same_outline h g ≡ true → size (parts h) ≡ size (parts g)
parts-size (var i) (var j) e = refl
parts-size (var i) (node G ss) e = absurd (cc e)
parts-size (node F ts) (var j) e = absurd (cc e)
parts-size (node F ts) (node G ss) e =
    eqb-true (size ts) (size ss) (and_parts (same_form F G) (eqb (size ts) (size ss)) e).1

pub heads-lead : (E : Env) (n j k : ℕ) (t u h g : Term) (o : Outcome) → same t u ≡ false →
    head E n t ≡ Head.done h j → head E (n - j) u ≡ Head.done g k → HeadsLeadTo E (j + k) h g o → LeadsTo E n t u o
heads-lead E n j k t u h g outcome.Same d e f w = absurd w
heads-lead E n j k t u h g (outcome.Splits made ls rs) d e f
    (same_heads, counts, lefts, rights, left_ready, right_ready) =
    let left_within = made-within E n t h j e in
    let right_within = made-within E (n - j) u g k f in
    record {
      within = omega arith;
      goes_on = λ path is.
          pair-splits E n j k path t u h g is d e f same_heads
          ∙ ap (λ m. within_count E (n - m) (beside path 0 (parts h) (parts g) ++ is)) (sym counts)
          ∙ sym (ap (λ ts. within_count E (n - made) (beside path 0 ts (side_by_side (nodes rs.items)) ++ is)) lefts
          ∙ ap (λ ts. within_count E (n - made) (beside path 0 (parts h) ts ++ is)) rights);
      as_many =
          sym (nodes-size ls.items) ∙ ap size lefts ∙ parts-size h g same_heads ∙ sym (ap size rights)
          ∙ nodes-size rs.items;
      lighter = λ z. subst (λ ts. weights ts < weight t) (sym lefts) (parts-lighter E n t h j e (omega arith));
      left_ready = left_ready;
      right_ready = right_ready;
    }
heads-lead E n j k t u h g outcome.Differs d e f w = λ path is. pair-differs E n j k path t u h g is d e f w
heads-lead E n j k t u h g outcome.Spent d e f w = absurd w
