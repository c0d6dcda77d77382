-- Clauses, items and texts that are filled are forgotten back.
use Rattle.std.proofs.Common.{◌≡◌, ◌∙◌, refl, ap, sym, ℕ, zero, suc, ◌+◌, ◌-◌, ◌≤◌, arith, List, [], ◌∷◌, ◌++◌, map, length, reverse, Result, Ok, Err, if◌then◌else◌, Bool, true, false, nat_le, sum_by}
use Rattle.std.specs.Prelude.{unwrap_or}
use mathlib.Core.Path.{ap₂}
use Rattle.qtt_base.specs.Limits.{standard}
use Rattle.qtt_base.specs.declared.place.Span.{Span}
use Rattle.qtt_usage.specs.declared.mult.Mult.{Mult}
use Rattle.qtt_syntax.specs.declared.expr.Mark.{Mark}
use Rattle.qtt_syntax.specs.declared.expr.Mark.TheVariants.{Written, Braced, Inserted}
use Rattle.qtt_syntax.specs.Tree.{Tree, Arguments, Shape, Shapes, Param, Con, Item, shapes}
use Rattle.qtt_syntax.specs.Tree.Tree.{name, number, text, universe, hole, the, apply, pi, lambda, letting, doing}
use Rattle.qtt_syntax.specs.Tree.Argument.{argument}
use Rattle.qtt_syntax.specs.Tree.Arguments.{no_argument, argument_and}
use Rattle.qtt_syntax.specs.Tree.Shape.{variable, wildcard, constructor, dot}
use Rattle.qtt_syntax.specs.Tree.Shapes.{no_shape, shape_and}
use Rattle.qtt_syntax.specs.Tree.Param.{param}
use Rattle.qtt_syntax.specs.Tree.Con.{con}
use Rattle.qtt_syntax.specs.Tree.Item.{family, signature as typing, clause}
use Rattle.qtt_syntax.specs.Tree.Module.{module_text}
use Rattle.qtt_names.specs.Exports.{Sig}
use Rattle.qtt_names.specs.PrimSigs.{prim_exports}
use Rattle.qtt_implicit.specs.Moving.{changed, changed_arguments, weighed}
use Rattle.qtt_implicit.specs.Known.{Known, signature_named}
use Rattle.qtt_implicit.specs.Filling.{Stop}
use Rattle.qtt_implicit.specs.Walk.{Walked, Types, behind, is_inserted, walk}
use Rattle.qtt_implicit.specs.Patterns.{Columns, Met, Seen, AllSeen, signature_of, braces_of, new_variables, with_slots, all_with_slots, clause_shapes, marks, all_marks, place_among, renumbered, renumbered_shape, renumbered_shapes, walk_shape, walk_shapes, put_pattern, shape_list}
use Rattle.qtt_implicit.specs.Filled.{Grown, Params, Refusal, Filled, FilledText, brace_count, behind_params, family_sig, constructor_sig, definition_sig, with_own, walk_params, walk_cons, own_con, walk_family, walk_signature, no_sig, walk_clause, walk_item, item_nodes, place_of, grown, filled_item, and_item, item_then, filled_items, with_items, at_start}
use Rattle.qtt_implicit.specs.Forget.{forgotten, number_among, side_forgotten, variable_unless_inserted, shape_forgotten, shapes_forgotten, clause_forgotten, param_forgotten, con_forgotten, item_forgotten, text_forgotten}
use Rattle.qtt_implicit.specs.Forgetting.{renumbering}
use Rattle.qtt_implicit.specs.Laws.{weighed_shape, weighed_shapes, weighed_param, weighed_con, weighed_item, inserted, unless, all_written, braces_first, has_argument, misplaced, chain_length, HasItsBinders, FilledIsForgotten}
use Rattle.qtt_implicit.proofs.Outcomes.{Gives, Always, then_always, done_always}
use Rattle.qtt_implicit.proofs.SeenSignatures.{Each, Sees, seen, sees_more, imports_seen, sum_more}
use Rattle.qtt_implicit.proofs.RenumberedTrees.{renumbered_name, undone, weighed_same}
use Rattle.qtt_implicit.proofs.ForgottenParts.{listed}
use Rattle.qtt_implicit.proofs.Back.{back}

-- ---- numbers among the variables, and back
place_back : (ms : List Mark) (i : ℕ) → number_among ms (place_among ms i) ≡ i
place_back [] i = refl
place_back (Inserted ∷ ms) i = place_back ms i
place_back (Written ∷ ms) zero = refl
place_back (Written ∷ ms) (suc i) = ap suc (place_back ms i)
place_back (Braced ∷ ms) zero = refl
place_back (Braced ∷ ms) (suc i) = ap suc (place_back ms i)

-- ---- no number moves an argument
module _ (f : ℕ → ℕ) (d : ℕ) where
  same_written : (xs : Arguments) → all_written (changed_arguments (renumbering f) d xs) ≡ all_written xs
  same_written no_argument = refl
  same_written (argument_and (argument Written t) more) = same_written more
  same_written (argument_and (argument Braced t) more) = refl
  same_written (argument_and (argument Inserted t) more) = refl

  same_first : (xs : Arguments) → braces_first (changed_arguments (renumbering f) d xs) ≡ braces_first xs
  same_first no_argument = refl
  same_first (argument_and (argument Written t) more) = same_written more
  same_first (argument_and (argument Braced t) more) = same_first more
  same_first (argument_and (argument Inserted t) more) = refl

  same_some : (xs : Arguments) → has_argument (changed_arguments (renumbering f) d xs) ≡ has_argument xs
  same_some no_argument = refl
  same_some (argument_and (argument k t) more) = refl

misplaced_same : (f : ℕ → ℕ) (d : ℕ) (t : Tree) → misplaced (changed (renumbering f) d t) ≡ misplaced t
misplaced_same f d (name n) = ap misplaced (renumbered_name f d n.path n.target n.span)
misplaced_same f d (number z s) = refl
misplaced_same f d (text v s) = refl
misplaced_same f d (universe l ls s) = refl
misplaced_same f d (hole n s) = refl
misplaced_same f d (the t e s) = refl
misplaced_same f d (apply g xs s) =
    ap₂ (λ x y. x + y) (ap unless (same_some f d xs)) (ap unless (same_first f d xs))
misplaced_same f d (pi k m n a b s) = refl
misplaced_same f d (lambda bs b s) = refl
misplaced_same f d (letting m n t e b s) = refl
misplaced_same f d (doing ss s) = refl

-- ---- patterns without the variables that were put in
abbrev mutual
  bare : Shape → Shapes → Shapes
  bare (variable k n s) more = variable_unless_inserted k n s more
  bare (wildcard k s) more = shape_and (wildcard k s) more
  bare (constructor k h ps s) more = shape_and (constructor k h (bare_all ps) s) more
  bare (dot k e s) more = shape_and (dot k e s) more

  bare_all : Shapes → Shapes
  bare_all no_shape = no_shape
  bare_all (shape_and p more) = bare p (bare_all more)

abbrev no_weight : Mark → ℕ
no_weight k = 0

new_bare : (k i : ℕ) (s : Span) (ps : Shapes) → bare_all (new_variables k i s ps) ≡ bare_all ps
new_bare zero i s ps = refl
new_bare (suc k) i s ps = new_bare k (suc i) s ps

new_weight : (k i : ℕ) (s : Span) (ps : Shapes) →
    weighed_shapes misplaced no_weight (new_variables k i s ps) ≡ weighed_shapes misplaced no_weight ps
new_weight zero i s ps = refl
new_weight (suc k) i s ps = let e = new_weight k (suc i) s ps in omega (arith, e)

module _ (K : Known) where
  mutual
    slots_bare : (p : Shape) (i : ℕ) (more : Shapes) → weighed_shape misplaced inserted p ≡ 0 →
        bare (with_slots K p i).0 more ≡ shape_and p more
    slots_bare (variable Written n s) i more h = refl
    slots_bare (variable Braced n s) i more h = refl
    slots_bare (variable Inserted n s) i more h = absurd (omega arith)
    slots_bare (wildcard k s) i more h = refl
    slots_bare (constructor k h ps s) i more e =
        ap (λ qs. shape_and (constructor k h qs s) more)
        (new_bare (braces_of (signature_of K h.target)) i h.span _
        ∙ all_slots_bare ps (i + braces_of (signature_of K h.target)) e)
    slots_bare (dot k e s) i more h = refl

    all_slots_bare : (ps : Shapes) (i : ℕ) → weighed_shapes misplaced inserted ps ≡ 0 →
        bare_all (all_with_slots K ps i).0 ≡ ps
    all_slots_bare no_shape i h = refl
    all_slots_bare (shape_and p more) i h =
        slots_bare p i (bare_all (all_with_slots K more (with_slots K p i).1).0) (omega arith)
        ∙ ap (shape_and p) (all_slots_bare more (with_slots K p i).1 (omega arith))

  mutual
    slots_weight : (p : Shape) (i : ℕ) → weighed_shape misplaced inserted p ≡ 0 →
        weighed_shape misplaced no_weight (with_slots K p i).0 ≡ 0
    slots_weight (variable k n s) i h = refl
    slots_weight (wildcard k s) i h = refl
    slots_weight (constructor k h ps s) i e =
        new_weight (braces_of (signature_of K h.target)) i h.span _
        ∙ all_slots_weight ps (i + braces_of (signature_of K h.target)) e
    slots_weight (dot k e s) i h = h

    all_slots_weight : (ps : Shapes) (i : ℕ) → weighed_shapes misplaced inserted ps ≡ 0 →
        weighed_shapes misplaced no_weight (all_with_slots K ps i).0 ≡ 0
    all_slots_weight no_shape i h = refl
    all_slots_weight (shape_and p more) i h =
        let one = slots_weight p i (omega arith) in
        let others = all_slots_weight more (with_slots K p i).1 (omega arith) in
        omega (arith, one, others)

-- ---- the walk over patterns
any_put : (k : Mark) → Always (λ (u : Unit {0}). Unit {0}) (put_pattern k)
any_put k = record { at = λ left. by left (nat_le (if is_inserted k then 1 else 0) left) }
  where
    by : (left : ℕ) (b : Bool) →
        Gives (λ (u : Unit {0}). Unit {0})
        (if b then Ok (tt, left - (if is_inserted k then 1 else 0)) else Err Stop.too_large)
    by left true = tt
    by left false = tt

module _ (K : Known) (sees : Sees HasItsBinders K) (ms : List Mark) where
  abbrev back_number : ℕ → ℕ
  back_number = number_among (reverse ms)

  -- an expression among the variables
  side_back : (Γ : Types) (e : Tree) → weighed misplaced e ≡ 0 →
      Always (λ (r : Walked). side_forgotten back_number r.tree ≡ e) (walk K Γ (renumbered ms e))
  side_back Γ e h =
      let place = place_among (reverse ms) in
      let same = weighed_same place misplaced (misplaced_same place) 0 e in
      record {
        at = λ left. by (walk K Γ (renumbered ms e) left)
            ((back K (seen HasItsBinders K sees) Γ (renumbered ms e) (same ∙ h)).at left);
      }
    where
      by : (r : Result (Walked × ℕ) Stop) → Gives (λ (r : Walked). forgotten r.tree ≡ renumbered ms e) r →
          Gives (λ (r : Walked). side_forgotten back_number r.tree ≡ e) r
      by (Ok r) p =
          ap (changed (renumbering back_number) 0) p
          ∙ undone (place_among (reverse ms)) back_number (place_back (reverse ms)) 0 e
      by (Err s) p = tt

  abbrev SeenBack : Shape → Seen → Type 0
  SeenBack p r = (marks r.shape ≡ marks p) × ((more : Shapes) → shape_forgotten back_number r.shape more ≡ bare p more)

  abbrev AllBack : Shapes → AllSeen → Type 0
  AllBack ps r = (all_marks r.shapes ≡ all_marks ps) × (shapes_forgotten back_number r.shapes ≡ bare_all ps)

  mutual
    back_shape : (v : Met) (T : Tree) (p : Shape) → weighed_shape misplaced no_weight p ≡ 0 →
        Always (SeenBack p) (walk_shape K v T (renumbered_shape ms p))
    back_shape v T (variable k n s) h = then_always (any_put k) (λ added u. done_always (refl, λ more. refl))
    back_shape v T (wildcard k s) h = done_always (refl, λ more. refl)
    back_shape v T (constructor k h ps s) e =
        then_always (back_shapes v _ ps e) (λ ps' p. done_always
        (p.0, λ more. ap (λ qs. shape_and (constructor k h qs s) more) p.1))
    back_shape v T (dot k e s) h =
        then_always (side_back v.types e h) (λ e' p. done_always
        (refl, λ more. ap (λ x. shape_and (dot k x s) more) p))

    back_shapes : (v : Met) (cs : Columns) (ps : Shapes) → weighed_shapes misplaced no_weight ps ≡ 0 →
        Always (AllBack ps) (walk_shapes K v cs (renumbered_shapes ms ps))
    back_shapes v cs no_shape h = done_always (refl, refl)
    back_shapes v cs (shape_and p more) h =
        then_always (back_shape v _ p (omega arith)) (λ p' one.
        then_always (back_shapes _ _ more (omega arith)) (λ more' others. done_always (
          ap₂ (λ (a b : List Mark). a ++ b) one.0 others.0,
          one.1 (shapes_forgotten back_number more'.shapes) ∙ ap (bare p) others.1,
        )))

shapes_listed : (ps : Shapes) → shapes (shape_list ps) ≡ ps
shapes_listed no_shape = refl
shapes_listed (shape_and p more) = ap (shape_and p) (shapes_listed more)

-- ---- items
abbrev pub OwnHave : (Sig → Type 0) → List (List ℕ × Sig) → Type 0
OwnHave P own = Each (λ (o : List ℕ × Sig). P o.1) own

pub record ItemBack (i : Item) (g : Grown) : Type 0 where
  pub same : item_forgotten g.item ≡ i
  pub own : OwnHave HasItsBinders g.own

counted : (t : Tree) → brace_count t ≤ chain_length t
counted (pi Braced m n a b s) = let h = counted b in omega (arith, h)
counted (pi Written m n a b s) = omega arith
counted (pi Inserted m n a b s) = omega arith
counted t = omega arith

params_length : (ps : List Param) (t : Tree) → chain_length (behind_params ps t) ≡ length ps + chain_length t
params_length [] t = omega arith
params_length (param m n a s ∷ ps) t = let e = params_length ps t in omega (arith, e)

definition_has : (t : Tree) → HasItsBinders (definition_sig t)
definition_has t = let h = counted t in omega (arith, h)

constructor_has : (ps : List Param) (t : Tree) → HasItsBinders (constructor_sig ps t)
constructor_has ps t = let h = counted t in let e = params_length ps t in omega (arith, h, e)

family_has : (ps : List Param) (t : Tree) → HasItsBinders (family_sig ps t)
family_has ps t = omega arith

cons_have : (ps : List Param) (cs : List Con) → OwnHave HasItsBinders (map (own_con ps) cs)
cons_have ps [] = tt
cons_have ps (con n t s ∷ cs) = (constructor_has ps t, cons_have ps cs)

pub shape_sums : (w : Tree → ℕ) (v : Mark → ℕ) (ps : List Shape) →
    sum_by (weighed_shape w v) ps ≡ weighed_shapes w v (shapes ps)
shape_sums w v [] = refl
shape_sums w v (p ∷ ps) =
    sum_more (weighed_shape w v) p ps ∙ ap (λ n. weighed_shape w v p + n) (shape_sums w v ps)

module _ (K : Known) (sees : Sees HasItsBinders K) where
  back_params : (Γ : Types) (ps : List Param) → sum_by (weighed_param misplaced) ps ≡ 0 →
      Always (λ (r : Params). map param_forgotten r.params ≡ ps) (walk_params K Γ ps)
  back_params Γ [] h = done_always refl
  back_params Γ (param m n t s ∷ more) h =
      let e = sum_more (weighed_param misplaced) (param m n t s) more in
      then_always (back K (seen HasItsBinders K sees) Γ t (omega (arith, e, h))) (λ t' p.
      then_always (back_params (behind t'.tree Γ) more (omega (arith, e, h))) (λ more' q. done_always
      (ap₂ (λ (x : Tree) (l : List Param). param m n x s ∷ l) p q)))

  back_cons : (Γ : Types) (cs : List Con) → sum_by (weighed_con misplaced) cs ≡ 0 →
      Always (λ cs'. map con_forgotten cs' ≡ cs) (walk_cons K Γ cs)
  back_cons Γ [] h = done_always refl
  back_cons Γ (con n t s ∷ more) h =
      let e = sum_more (weighed_con misplaced) (con n t s) more in
      then_always (back K (seen HasItsBinders K sees) Γ t (omega (arith, e, h))) (λ t' p.
      then_always (back_cons Γ more (omega (arith, e, h))) (λ more' q. done_always
      (ap₂ (λ (x : Tree) (l : List Con). con n x s ∷ l) p q)))

back_family : (K : Known) → Sees HasItsBinders K → (n : List ℕ) (ns : Span) (ps : List Param) (t : Tree)
    (cs : List Con) (s : Span) → weighed_item misplaced inserted (family n ns ps t cs s) ≡ 0 →
    Always (ItemBack (family n ns ps t cs s)) (walk_family K n ns ps t cs s)
back_family K sees n ns ps t cs s h =
    then_always (back_params K sees [] ps (omega arith)) (λ ps' p.
    then_always (back K (seen HasItsBinders K sees) ps'.types t (omega arith)) (λ t' q.
    then_always (back_cons _ (sees_more HasItsBinders K _ sees
    (family_has ps'.params t'.tree, tt)) ps'.types cs (omega arith))
    (λ cs' r. done_always (record {
      same = ap (λ x. family n ns x (forgotten t'.tree) (map con_forgotten cs') s) p
          ∙ ap₂ (λ x y. family n ns ps x y s) q r;
      own = (family_has ps'.params t'.tree, cons_have ps'.params cs');
    }))))

back_signature : (K : Known) → Sees HasItsBinders K → (p : Bool) (m : Mult) (n : List ℕ) (ns : Span) (t : Tree)
    (s : Span) → weighed misplaced t ≡ 0 → Always (ItemBack (typing p m n ns t s)) (walk_signature K p m n ns t s)
back_signature K sees p m n ns t s h =
    then_always (back K (seen HasItsBinders K sees) [] t h) (λ t' q. done_always (record {
      same = ap (λ x. typing p m n ns x s) q;
      own = (definition_has t'.tree, tt);
    }))

back_clause : (K : Known) → Sees HasItsBinders K → (S : Sig) (n : List ℕ) (ps : List Shape) (side : Tree) (s : Span) →
    weighed_item misplaced inserted (clause n ps side s) ≡ 0 →
    Always (ItemBack (clause n ps side s)) (walk_clause K S n (clause_shapes K S.braces s ps) side s)
back_clause K sees S n ps side s h =
    then_always (back_shapes K sees ms _ _ W weight) (λ ps' p.
    then_always (side_back K sees ms ps'.met.types side (omega arith)) (λ side' q. done_always (record {
      same = whole ps' side'.tree p q;
      own = tt;
    })))
  where
    W : Shapes
    W = clause_shapes K S.braces s ps

    ms : List Mark
    ms = all_marks (clause_shapes K S.braces s ps)

    own_weight : weighed_shapes misplaced inserted (shapes ps) ≡ 0
    own_weight = let e = shape_sums misplaced inserted ps in omega (arith, e, h)

    weight : weighed_shapes misplaced no_weight (clause_shapes K S.braces s ps) ≡ 0
    weight = new_weight S.braces 0 s (all_with_slots K (shapes ps) S.braces).0
        ∙ all_slots_weight K (shapes ps) S.braces (let e = shape_sums misplaced inserted ps in omega (arith, e, h))

    whole : (r : AllSeen) (e : Tree) →
        AllBack K sees (all_marks (clause_shapes K S.braces s ps)) (clause_shapes K S.braces s ps) r →
        side_forgotten (number_among (reverse (all_marks (clause_shapes K S.braces s ps)))) e ≡ side →
        item_forgotten (clause n (shape_list r.shapes) e s) ≡ clause n ps side s
    whole r e p q =
        let forget : List Mark → Shapes → Item = λ (ks : List Mark) (rs : Shapes). clause_forgotten n ks rs e s in
        ap (λ (rs : Shapes). forget (all_marks rs) rs) (shapes_listed r.shapes)
        ∙ ap (λ (ks : List Mark). forget ks r.shapes) p.0
        ∙ ap₂ (λ (rs : Shapes) (x : Tree). clause n (shape_list rs) x s)
        (p.1 ∙ new_bare S.braces 0 s (all_with_slots K (shapes ps) S.braces).0
        ∙ all_slots_bare K (shapes ps) S.braces (let e = shape_sums misplaced inserted ps in omega (arith, e, h))) q
        ∙ ap (λ (l : List Shape). clause n l side s) (listed ps)

back_item : (K : Known) → Sees HasItsBinders K → (i : Item) → weighed_item misplaced inserted i ≡ 0 →
    Always (ItemBack i) (walk_item K i)
unfolding walk_item
back_item K sees (family n ns ps t cs s) h = back_family K sees n ns ps t cs s h
back_item K sees (typing p m n ns t s) h = back_signature K sees p m n ns t s h
back_item K sees (clause n ps side s) h = back_clause K sees (unwrap_or (signature_named K n) no_sig) n ps side s h

-- ---- texts
abbrev OfItem : Item → Result Grown Refusal → Type 0
OfItem i (Ok g) = ItemBack i g
OfItem i (Err e) = Unit {0}

abbrev OfItems : List Item → Result Filled Refusal → Type 0
OfItems is (Ok r) = map item_forgotten r.items ≡ is
OfItems is (Err e) = Unit {0}

item_filled : (limit : ℕ) (K : Known) → Sees HasItsBinders K → (i : Item) → weighed_item misplaced inserted i ≡ 0 →
    OfItem i (filled_item limit K i)
item_filled limit K sees i h = by (nat_le (item_nodes i) limit)
  where
    grows : (r : Result (Grown × ℕ) Stop) → Gives (ItemBack i) r → OfItem i (grown limit (place_of i) r)
    grows (Ok r) p = p
    grows (Err e) p = tt

    by : (b : Bool) → OfItem i (if b then grown limit (place_of i) (walk_item K i (limit - item_nodes i))
        else Err (Refusal.too_large (limit + 1) (place_of i)))
    by true = grows (walk_item K i (limit - item_nodes i)) ((back_item K sees i h).at (limit - item_nodes i))
    by false = tt

items_filled : (limit : ℕ) (K : Known) → Sees HasItsBinders K → (is : List Item) →
    sum_by (weighed_item misplaced inserted) is ≡ 0 → OfItems is (filled_items limit K is)
items_filled limit K sees [] h = refl
items_filled limit K sees (i ∷ is) h =
    let e = sum_more (weighed_item misplaced inserted) i is in
    by (filled_item limit K i) (item_filled limit K sees i (omega (arith, e, h)))
    (λ g own. items_filled limit (with_own g.own K) (sees_more HasItsBinders K g.own sees own) is (omega (arith, e, h)))
  where
    front : (g : Grown) (r : Result Filled Refusal) → item_forgotten g.item ≡ i → OfItems is r →
        OfItems (i ∷ is) (and_item g.item r)
    front g (Ok r) p q = ap₂ (λ (x : Item) (l : List Item). x ∷ l) p q
    front g (Err e) p q = tt

    by : (r : Result Grown Refusal) → OfItem i r →
        ((g : Grown) → OwnHave HasItsBinders g.own → OfItems is (filled_items limit (with_own g.own K) is)) →
        OfItems (i ∷ is) (item_then r (λ g. filled_items limit (with_own g.own K) is))
    by (Ok g) p more = front g (filled_items limit (with_own g.own K) is) p.same (more g p.own)
    by (Err e) p more = tt

abbrev all_have : List Sig → Bool
all_have [] = true
all_have (S ∷ more) = if nat_le (S.params + S.braces) (chain_length S.type) then all_have more else false

each_has : (sigs : List Sig) → all_have sigs ≡ true → Each HasItsBinders sigs
each_has [] h = tt
each_has (S ∷ more) h = by (nat_le (S.params + S.braces) (chain_length S.type)) refl h (each_has more)
  where
    by : (b : Bool) → nat_le (S.params + S.braces) (chain_length S.type) ≡ b →
        (if b then all_have more else false) ≡ true → (all_have more ≡ true → Each HasItsBinders more) →
        Each HasItsBinders (S ∷ more)
    by true e h rest = (grind (arith, e), rest h)
    by false e h rest = absurd cc

same_text : (x y : FilledText) (p : Result FilledText Refusal) → p ≡ Ok x → p ≡ Ok y → x ≡ y
same_text x y p e f = cc

pub filled_is_forgotten : FilledIsForgotten
filled_is_forgotten home imports (module_text h n ns is items) r each whole e =
    by (filled_items standard.filled_nodes (at_start home imports) items)
    (items_filled standard.filled_nodes (at_start home imports) (record {
      own = tt;
      imports = (each_has prim_exports.sigs refl, imports_seen HasItsBinders imports each);
    }) items whole) e
  where
    by : (q : Result Filled Refusal) → OfItems items q → with_items (module_text h n ns is) q ≡ Ok r →
        text_forgotten r.text ≡ module_text h n ns is items
    by (Ok q) p f =
        ap (λ (t : FilledText). text_forgotten t.text) (sym (same_text _ r _ refl f)) ∙ ap (module_text h n ns is) p
    by (Err q) p f = absurd cc
