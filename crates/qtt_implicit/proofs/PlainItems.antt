-- A text without braces is filled with itself.
use Rattle.std.proofs.Common.{◌≡◌, ◌∙◌, refl, ap, sym, subst, ℕ, zero, suc, ◌+◌, ◌-◌, ◌≤◌, arith, List, [], ◌∷◌, map, reverse, length, Option, Some, None, Result, Ok, Err, if◌then◌else◌, Bool, true, false, nat_le, sum_by, find}
use Rattle.std.specs.Prelude.{unwrap_or}
use Rattle.std.proofs.lemmas.List.{reverse-append}
use mathlib.Core.Path.{ap₂}
use Rattle.qtt_base.specs.Limits.{standard}
use Rattle.qtt_base.specs.declared.place.Span.{Span}
use Rattle.qtt_usage.specs.declared.mult.Mult.{Mult}
use Rattle.qtt_syntax.specs.declared.expr.Mark.{Mark}
use Rattle.qtt_syntax.specs.declared.expr.Mark.TheVariants.{Written, Braced, Inserted}
use Rattle.qtt_syntax.specs.declared.expr.Target.{Target}
use Rattle.qtt_syntax.specs.declared.expr.Target.TheVariants as target
use Rattle.qtt_syntax.specs.Tree.{Tree, Shape, Shapes, Param, Con, Item, shapes}
use Rattle.qtt_syntax.specs.Tree.Tree.{pi}
use Rattle.qtt_syntax.specs.Tree.Shape.{variable, wildcard, constructor, dot}
use Rattle.qtt_syntax.specs.Tree.Shapes.{no_shape, shape_and}
use Rattle.qtt_syntax.specs.Tree.Param.{param}
use Rattle.qtt_syntax.specs.Tree.Con.{con}
use Rattle.qtt_syntax.specs.Tree.Item.{family, signature as typing, clause}
use Rattle.qtt_syntax.specs.Tree.Module.{module_text}
use Rattle.qtt_names.specs.Scope.{same_name}
use Rattle.qtt_names.specs.Exports.{Exports, Sig}
use Rattle.qtt_implicit.specs.Moving.{weighed}
use Rattle.qtt_implicit.specs.Known.{Known, signature, signature_named}
use Rattle.qtt_implicit.specs.Walk.{Walked, Types, behind, is_inserted, walk}
use Rattle.qtt_implicit.specs.Patterns.{Columns, Met, Seen, AllSeen, signature_of, braces_of, new_variables, with_slots, all_with_slots, clause_shapes, marks, all_marks, place_among, renumbered, renumbered_shape, renumbered_shapes, none_met, walk_shape, walk_shapes, shape_list}
use Rattle.qtt_implicit.specs.Filled.{Grown, family_sig, Params, Refusal, Filled, brace_count, with_own, walk_params, walk_cons, own_con, walk_family, walk_signature, no_sig, walk_clause, walk_item, item_nodes, place_of, grown, filled_item, and_item, item_then, filled_items, with_items, at_start, filled}
use Rattle.qtt_implicit.specs.Laws.{weighed_shape, weighed_shapes, weighed_param, weighed_con, weighed_item, inserted, not_plain, no_mark, braces_seen, name_braces, head_braces, all_head_braces, item_head_braces, HasNoBraces, FilledWithItself}
use Rattle.qtt_implicit.proofs.Outcomes.{Comes, then_comes, done_comes}
use Rattle.qtt_implicit.proofs.SeenSignatures.{Each, Has, each_found, each_of, each-append, mapped, sum_more}
use Rattle.qtt_implicit.proofs.RenumberedTrees.{unmoved}
use Rattle.qtt_implicit.proofs.ForgottenParts.{listed}
use Rattle.qtt_implicit.proofs.BackItems.{OwnHave, shape_sums}
use Rattle.qtt_implicit.proofs.Plain.{nothing_put, signature_none, stays}

-- ---- variables that were all written
abbrev WasWritten : Mark → Type 0
WasWritten k = is_inserted k ≡ false

none_inserted : (k : Mark) → inserted k ≡ 0 → WasWritten k
none_inserted Written h = refl
none_inserted Braced h = refl
none_inserted Inserted h = absurd (omega arith)

mutual
  marks_written : (p : Shape) → weighed_shape not_plain inserted p ≡ 0 → Each WasWritten (marks p)
  marks_written (variable k n s) h = (none_inserted k h, tt)
  marks_written (wildcard k s) h = tt
  marks_written (constructor k h ps s) e = all_marks_written ps e
  marks_written (dot k e s) h = tt

  all_marks_written : (ps : Shapes) → weighed_shapes not_plain inserted ps ≡ 0 → Each WasWritten (all_marks ps)
  all_marks_written no_shape h = tt
  all_marks_written (shape_and p more) h =
      each-append WasWritten (marks p) (all_marks more) (marks_written p (omega arith))
      (all_marks_written more (omega arith))

reversed_written : (ms : List Mark) → Each WasWritten ms → Each WasWritten (reverse ms)
reversed_written [] h = tt
reversed_written (k ∷ ms) h =
    subst (Each WasWritten) (sym (reverse-append (k ∷ []) ms))
    (each-append WasWritten (reverse ms) (k ∷ []) (reversed_written ms h.1) (h.0, tt))

place_same : (ms : List Mark) → Each WasWritten ms → (i : ℕ) → place_among ms i ≡ i
place_same [] h i = refl
place_same (Inserted ∷ ms) h i = let e = h.0 in absurd cc
place_same (Written ∷ ms) h zero = refl
place_same (Written ∷ ms) h (suc i) = ap suc (place_same ms h.1 i)
place_same (Braced ∷ ms) h zero = refl
place_same (Braced ∷ ms) h (suc i) = ap suc (place_same ms h.1 i)

module _ (ms : List Mark) (written : Each WasWritten ms) where
  side_same : (e : Tree) → renumbered ms e ≡ e
  side_same e = unmoved (place_among (reverse ms)) (place_same (reverse ms) (reversed_written ms written)) 0 e

  mutual
    shape_same : (p : Shape) → renumbered_shape ms p ≡ p
    shape_same (variable k n s) = refl
    shape_same (wildcard k s) = refl
    shape_same (constructor k h ps s) = ap (λ qs. constructor k h qs s) (shapes_same ps)
    shape_same (dot k e s) = ap (λ x. dot k x s) (side_same e)

    shapes_same : (ps : Shapes) → renumbered_shapes ms ps ≡ ps
    shapes_same no_shape = refl
    shapes_same (shape_and p more) = ap₂ shape_and (shape_same p) (shapes_same more)

-- ---- own items
own_more : (K : Known) → OwnHave HasNoBraces K.own → (own : List (List ℕ × Sig)) → OwnHave HasNoBraces own →
    OwnHave HasNoBraces (with_own own K).own
own_more K h own more = each-append (λ (o : List ℕ × Sig). HasNoBraces o.1) K.own own h more

named_none : (K : Known) → OwnHave HasNoBraces K.own → (n : List ℕ) → Has HasNoBraces (signature_named K n)
named_none K own n = mapped HasNoBraces (find (λ (o : List ℕ × Sig). same_name o.0 n) K.own)
    (each_found (λ (o : List ℕ × Sig). HasNoBraces o.1) (λ (o : List ℕ × Sig). same_name o.0 n) K.own own)

head_sums : (es : List Exports) (ps : List Shape) → sum_by (head_braces es) ps ≡ all_head_braces es (shapes ps)
head_sums es [] = refl
head_sums es (p ∷ ps) = sum_more (head_braces es) p ps ∙ ap (λ n. head_braces es p + n) (head_sums es ps)

-- ---- patterns
module _ (K : Known) (own : OwnHave HasNoBraces K.own) where
  no_braces_of : (T : Target) → braces_seen K.imports T ≡ 0 → braces_of (signature_of K T) ≡ 0
  no_braces_of (target.Global id) unseen = by (signature K id) (signature_none K own id unseen)
    where
      by : (o : Option Sig) → Has HasNoBraces o → braces_of o ≡ 0
      by None h = refl
      by (Some S) h = h
  no_braces_of (target.Local i) unseen = refl
  no_braces_of target.Unknown unseen = refl

  none_new : (k i : ℕ) (s : Span) (ps : Shapes) → k ≡ 0 → new_variables k i s ps ≡ ps
  none_new k i s ps e = ap (λ (n : ℕ). new_variables n i s ps) e

  mutual
    slots_same : (p : Shape) (i : ℕ) → head_braces K.imports p ≡ 0 → (with_slots K p i).0 ≡ p
    slots_same (variable k n s) i heads = refl
    slots_same (wildcard k s) i heads = refl
    slots_same (constructor k h ps s) i heads =
        ap (λ qs. constructor k h qs s)
        (none_new (braces_of (signature_of K h.target)) i h.span _ (no_braces_of h.target (omega arith))
        ∙ all_slots_same ps (i + braces_of (signature_of K h.target)) (omega arith))
    slots_same (dot k e s) i heads = refl

    all_slots_same : (ps : Shapes) (i : ℕ) → all_head_braces K.imports ps ≡ 0 → (all_with_slots K ps i).0 ≡ ps
    all_slots_same no_shape i heads = refl
    all_slots_same (shape_and p more) i heads =
        ap₂ shape_and (slots_same p i (omega arith)) (all_slots_same more (with_slots K p i).1 (omega arith))

  mutual
    shape_stays : (v : Met) (T : Tree) (p : Shape) → weighed_shape not_plain inserted p ≡ 0 →
        weighed_shape (name_braces K.imports) no_mark p ≡ 0 → Comes (λ (r : Seen). r.shape ≡ p) (walk_shape K v T p)
    shape_stays v T (variable k n s) h unseen =
        then_comes (nothing_put (inserted k) h) (λ added u. done_comes refl)
    shape_stays v T (wildcard k s) h unseen = done_comes refl
    shape_stays v T (constructor k h ps s) e unseen =
        then_comes (shapes_stay v _ ps e unseen) (λ ps' p. done_comes (ap (λ qs. constructor k h qs s) p))
    shape_stays v T (dot k e s) h unseen =
        then_comes (stays K own v.types e h unseen) (λ e' p. done_comes (ap (λ x. dot k x s) p))

    shapes_stay : (v : Met) (cs : Columns) (ps : Shapes) → weighed_shapes not_plain inserted ps ≡ 0 →
        weighed_shapes (name_braces K.imports) no_mark ps ≡ 0 →
        Comes (λ (r : AllSeen). r.shapes ≡ ps) (walk_shapes K v cs ps)
    shapes_stay v cs no_shape h unseen = done_comes refl
    shapes_stay v cs (shape_and p more) h unseen =
        then_comes (shape_stays v _ p (omega arith) (omega arith)) (λ p' one.
        then_comes (shapes_stay _ _ more (omega arith) (omega arith))
        (λ more' others. done_comes (ap₂ shape_and one others)))

-- ---- items
pub record ItemStays (i : Item) (g : Grown) : Type 0 where
  pub same : g.item ≡ i
  pub own : OwnHave HasNoBraces g.own

none_counted : (t : Tree) → weighed not_plain t ≡ 0 → brace_count t ≡ 0
none_counted (pi Braced m n a b s) h = absurd (omega arith)
none_counted (pi Written m n a b s) h = refl
none_counted (pi Inserted m n a b s) h = refl
none_counted t h = refl

cons_counted : (ps : List Param) (cs : List Con) → sum_by (weighed_con not_plain) cs ≡ 0 →
    OwnHave HasNoBraces (map (own_con ps) cs)
cons_counted ps [] h = tt
cons_counted ps (con n t s ∷ cs) h =
    let e = sum_more (weighed_con not_plain) (con n t s) cs in
    (none_counted t (omega (arith, e, h)), cons_counted ps cs (omega (arith, e, h)))

module _ (K : Known) (own : OwnHave HasNoBraces K.own) where
  params_stay : (Γ : Types) (ps : List Param) → sum_by (weighed_param not_plain) ps ≡ 0 →
      sum_by (weighed_param (name_braces K.imports)) ps ≡ 0 →
      Comes (λ (r : Params). r.params ≡ ps) (walk_params K Γ ps)
  params_stay Γ [] h unseen = done_comes refl
  params_stay Γ (param m n t s ∷ more) h unseen =
      let e = sum_more (weighed_param not_plain) (param m n t s) more in
      let f = sum_more (weighed_param (name_braces K.imports)) (param m n t s) more in
      then_comes (stays K own Γ t (omega (arith, e, h)) (omega (arith, f, unseen))) (λ t' p.
      then_comes (params_stay (behind t'.tree Γ) more (omega (arith, e, h)) (omega (arith, f, unseen)))
      (λ more' q. done_comes
      (ap₂ (λ (x : Tree) (l : List Param). param m n x s ∷ l) p q)))

  cons_stay : (Γ : Types) (cs : List Con) → sum_by (weighed_con not_plain) cs ≡ 0 →
      sum_by (weighed_con (name_braces K.imports)) cs ≡ 0 → Comes (λ cs'. cs' ≡ cs) (walk_cons K Γ cs)
  cons_stay Γ [] h unseen = done_comes refl
  cons_stay Γ (con n t s ∷ more) h unseen =
      let e = sum_more (weighed_con not_plain) (con n t s) more in
      let f = sum_more (weighed_con (name_braces K.imports)) (con n t s) more in
      then_comes (stays K own Γ t (omega (arith, e, h)) (omega (arith, f, unseen))) (λ t' p.
      then_comes (cons_stay Γ more (omega (arith, e, h)) (omega (arith, f, unseen))) (λ more' q. done_comes
      (ap₂ (λ (x : Tree) (l : List Con). con n x s ∷ l) p q)))

family_stays : (K : Known) → OwnHave HasNoBraces K.own → (n : List ℕ) (ns : Span) (ps : List Param) (t : Tree)
    (cs : List Con) (s : Span) → weighed_item not_plain inserted (family n ns ps t cs s) ≡ 0 →
    weighed_item (name_braces K.imports) no_mark (family n ns ps t cs s) ≡ 0 →
    Comes (ItemStays (family n ns ps t cs s)) (walk_family K n ns ps t cs s)
family_stays K own n ns ps t cs s h unseen =
    then_comes (params_stay K own [] ps (omega arith) (omega arith)) (λ ps' p.
    then_comes (stays K own ps'.types t (omega arith) (omega arith)) (λ t' q.
    let more : List (List ℕ × Sig) = (n, family_sig ps'.params t'.tree) ∷ [] in
    then_comes (cons_stay (with_own more K) (own_more K own more (refl, tt)) ps'.types cs (omega arith) (omega arith))
    (λ cs' r. done_comes (record {
      same = ap (λ x. family n ns x t'.tree cs' s) p ∙ ap₂ (λ x y. family n ns ps x y s) q r;
      own = (
        refl,
        subst (λ (l : List Con). OwnHave HasNoBraces (map (own_con ps'.params) l)) (sym r)
            (cons_counted ps'.params cs (omega arith)),
      );
    }))))

signature_stays : (K : Known) → OwnHave HasNoBraces K.own → (p : Bool) (m : Mult) (n : List ℕ) (ns : Span) (t : Tree)
    (s : Span) → weighed not_plain t ≡ 0 →
    weighed (name_braces K.imports) t ≡ 0 → Comes (ItemStays (typing p m n ns t s)) (walk_signature K p m n ns t s)
signature_stays K own p m n ns t s h unseen =
    then_comes (stays K own [] t h unseen) (λ t' q. done_comes (record {
      same = ap (λ x. typing p m n ns x s) q;
      own = (ap brace_count q ∙ none_counted t h, tt);
    }))

equation_stays : (K : Known) → OwnHave HasNoBraces K.own → (S : Sig) (n : List ℕ) (ps : List Shape) (side : Tree)
    (s : Span) →
    weighed_shapes not_plain inserted (shapes ps) ≡ 0 → weighed not_plain side ≡ 0 →
    weighed_shapes (name_braces K.imports) no_mark (shapes ps) ≡ 0 → weighed (name_braces K.imports) side ≡ 0 →
    Comes (ItemStays (clause n ps side s)) (walk_clause K S n (shapes ps) side s)
equation_stays K own S n ps side s h e names unseen =
    let ms : List Mark = all_marks (shapes ps) in
    let written = all_marks_written (shapes ps) h in
    let start : Met = none_met (length ms) in
    let columns : Columns = Columns.told [] S.type in
    then_comes (subst (λ (qs : Shapes). Comes (λ (r : AllSeen). r.shapes ≡ shapes ps) (walk_shapes K start columns qs))
    (sym (shapes_same ms written (shapes ps))) (shapes_stay K own start columns (shapes ps) h names)) (λ ps' p.
    then_comes (subst (λ (x : Tree). Comes (λ (r : Walked). r.tree ≡ side) (walk K ps'.met.types x))
    (sym (side_same ms written side)) (stays K own ps'.met.types side e unseen))
    (λ side' q. done_comes (record {
      same = ap₂ (λ (rs : Shapes) (x : Tree). clause n (shape_list rs) x s) p q
          ∙ ap (λ (l : List Shape). clause n l side s) (listed ps);
      own = tt;
    })))

clause_stays : (K : Known) → OwnHave HasNoBraces K.own → (S : Sig) → S.braces ≡ 0 → (n : List ℕ) (ps : List Shape)
    (side : Tree) (s : Span) → weighed_item not_plain inserted (clause n ps side s) ≡ 0 →
    weighed_item (name_braces K.imports) no_mark (clause n ps side s) ≡ 0 → sum_by (head_braces K.imports) ps ≡ 0 →
    Comes (ItemStays (clause n ps side s)) (walk_clause K S n (clause_shapes K S.braces s ps) side s)
clause_stays K own S none n ps side s h unseen heads =
    let sums = shape_sums not_plain inserted ps in
    let names = shape_sums (name_braces K.imports) no_mark ps in
    let same : clause_shapes K S.braces s ps ≡ shapes ps =
    none_new K own S.braces 0 s _ none
    ∙ all_slots_same K own (shapes ps) S.braces (sym (head_sums K.imports ps) ∙ heads) in
    subst (λ (qs : Shapes). Comes (ItemStays (clause n ps side s)) (walk_clause K S n qs side s)) (sym same)
    (equation_stays K own S n ps side s (omega (arith, sums, h)) (omega (arith, sums, h))
    (omega (arith, names, unseen)) (omega (arith, names, unseen)))

item_stays : (K : Known) → OwnHave HasNoBraces K.own → (i : Item) → weighed_item not_plain inserted i ≡ 0 →
    weighed_item (name_braces K.imports) no_mark i ≡ 0 → item_head_braces K.imports i ≡ 0 →
    Comes (ItemStays i) (walk_item K i)
unfolding walk_item
item_stays K own (family n ns ps t cs s) h unseen heads = family_stays K own n ns ps t cs s h unseen
item_stays K own (typing p m n ns t s) h unseen heads = signature_stays K own p m n ns t s h unseen
item_stays K own (clause n ps side s) h unseen heads =
    clause_stays K own (unwrap_or (signature_named K n) no_sig)
    (by (signature_named K n) (named_none K own n)) n ps side s h unseen heads
  where
    by : (o : Option Sig) → Has HasNoBraces o → HasNoBraces (unwrap_or o no_sig)
    by None p = refl
    by (Some S) p = p

-- ---- texts
item_filled : (limit : ℕ) (K : Known) → OwnHave HasNoBraces K.own → (i : Item) →
    weighed_item not_plain inserted i ≡ 0 → weighed_item (name_braces K.imports) no_mark i ≡ 0 →
    item_head_braces K.imports i ≡ 0 →
    item_nodes i ≤ limit → (g : Grown) × (filled_item limit K i ≡ Ok g) × ItemStays i g
item_filled limit K own i h unseen heads fits = by (nat_le (item_nodes i) limit) refl
  where
    found : (left : ℕ) → (g : Grown) × (walk_item K i left ≡ Ok (g, left)) × ItemStays i g →
        (g : Grown) × (grown limit (place_of i) (walk_item K i left) ≡ Ok g) × ItemStays i g
    found left (g, e, p) = (g, ap (grown limit (place_of i)) e, p)

    by : (b : Bool) → nat_le (item_nodes i) limit ≡ b →
        (g : Grown) × ((if b then grown limit (place_of i) (walk_item K i (limit - item_nodes i))
        else Err (Refusal.too_large (limit + 1) (place_of i))) ≡ Ok g) × ItemStays i g
    by true e = found (limit - item_nodes i) ((item_stays K own i h unseen heads).at (limit - item_nodes i))
    by false e = absurd (grind (arith, e, fits))

abbrev Within : ℕ → Item → Type 0
Within limit i = item_nodes i ≤ limit

items_filled : (limit : ℕ) (K : Known) → OwnHave HasNoBraces K.own → (is : List Item) →
    sum_by (weighed_item not_plain inserted) is ≡ 0 → sum_by (weighed_item (name_braces K.imports) no_mark) is ≡ 0 →
    sum_by (item_head_braces K.imports) is ≡ 0 → Each (Within limit) is →
    (r : Filled) × (filled_items limit K is ≡ Ok r) × (r.items ≡ is)
items_filled limit K own [] h unseen heads fits = (_, refl, refl)
items_filled limit K own (i ∷ is) h unseen heads fits =
    let e = sum_more (weighed_item not_plain inserted) i is in
    let f = sum_more (weighed_item (name_braces K.imports) no_mark) i is in
    let d = sum_more (item_head_braces K.imports) i is in
    by (item_filled limit K own i (omega (arith, e, h)) (omega (arith, f, unseen)) (omega (arith, d, heads)) fits.0)
    (λ g added. items_filled limit (with_own g.own K) (own_more K own g.own added) is
    (omega (arith, e, h)) (omega (arith, f, unseen)) (omega (arith, d, heads)) fits.1)
  where
    by : (g : Grown) × (filled_item limit K i ≡ Ok g) × ItemStays i g →
        ((g : Grown) → OwnHave HasNoBraces g.own →
        (r : Filled) × (filled_items limit (with_own g.own K) is ≡ Ok r) × (r.items ≡ is)) →
        (r : Filled) × (filled_items limit K (i ∷ is) ≡ Ok r) × (r.items ≡ i ∷ is)
    by (g, e, p) more =
        let rest = more g p.own in
        let all : Filled = record { items = g.item ∷ rest.0.items; own = rest.0.own } in (
          all,
          ap (λ (x : Result Grown Refusal). item_then x (λ k. filled_items limit (with_own k.own K) is)) e
              ∙ ap (and_item g.item) rest.1,
          ap₂ (λ (x : Item) (l : List Item). x ∷ l) p.same rest.2,
        )

pub filled_with_itself : FilledWithItself
filled_with_itself home imports (module_text h n ns is items) unseen whole fits =
    by (items_filled standard.filled_nodes (at_start home imports) tt items whole unseen.0 unseen.1
    (each_of (Within standard.filled_nodes) items fits))
  where
    by : (r : Filled) × (filled_items standard.filled_nodes (at_start home imports) items ≡ Ok r) × (r.items ≡ items) →
        (sigs : List Sig) × (filled home imports (module_text h n ns is items) ≡ Ok
        (record { text = module_text h n ns is items; sigs = sigs }))
    by (r, e, p) =
        let sigs : List Sig = map (λ (o : List ℕ × Sig). o.1) r.own in (
          sigs,
          ap (with_items (module_text h n ns is)) e
              ∙ ap (λ (l : List Item). Ok (record { text = module_text h n ns is l; sigs = sigs })) p,
        )
