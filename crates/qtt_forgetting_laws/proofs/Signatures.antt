-- Each signature that a filled text gives has the binders that it counts.
use Rattle.std.proofs.Common.{◌≡◌, refl, subst, ℕ, ◌+◌, ◌-◌, ◌≤◌, arith, List, [], ◌∷◌, ◌++◌, All, map, length, Result, Ok, Err, if◌then◌else◌, Bool, true, false, nat_le}
use Rattle.std.proofs.lemmas.List.Elements.{All-nil, All-cons}
use Rattle.qtt_base.specs.Limits.{standard}
use Rattle.qtt_base.specs.declared.place.ModuleId.{ModuleId}
use Rattle.qtt_syntax.specs.declared.expr.Mark.TheVariants.{Written, Braced, Inserted}
use Rattle.qtt_syntax.specs.Tree.{Tree, Param, Con, Item, Module}
use Rattle.qtt_syntax.specs.Tree.Tree.{pi}
use Rattle.qtt_syntax.specs.Tree.Param.{param}
use Rattle.qtt_syntax.specs.Tree.Con.{con}
use Rattle.qtt_syntax.specs.Tree.Item.{family, signature as typing, clause}
use Rattle.qtt_syntax.specs.Tree.Module.{module_text}
use Rattle.qtt_names.specs.Exports.{Exports, Sig}
use Rattle.qtt_names.specs.PrimSigs.{prim_exports}
use Rattle.qtt_implicit.specs.Known.{Known}
use Rattle.qtt_implicit.specs.Filling.{Stop, Filling, done, goes_on, ◌>>=◌}
use Rattle.qtt_implicit.specs.Walk.{walk}
use Rattle.qtt_implicit.specs.Filled.{Grown, Refusal, Filled, FilledText, brace_count, behind_params, family_sig, constructor_sig, definition_sig, with_own, walk_params, own_con, walk_item, item_nodes, place_of, grown, filled_item, and_item, item_then, filled_items, with_items, at_start, filled}
use Rattle.qtt_implicit.specs.Laws.{chain_length, HasItsBinders}
use Rattle.qtt_reprint.proofs.Gives.{Each}

-- ---- what holds of the value of a filling, where there is one
abbrev Answers : {A : Type 0} → (A → Type 0) → Result (A × ℕ) Stop → Type 0
Answers P (Ok r) = P r.0
Answers P (Err s) = Unit {0}

record Always {A : Type 0} (P : A → Type 0) (m : Filling A) : Type 0 where
  at : (left : ℕ) → Answers P (m left)

then_always : {A B : Type 0} {Q : B → Type 0} (m : Filling A) {k : A → Filling B} → ((a : A) → Always Q (k a)) →
    Always Q (m >>= k)
unfolding ◌>>=◌
then_always {A} {B} {Q} m {k} next = record { at = λ left. go (m left) }
  where
    go : (r : Result (A × ℕ) Stop) → Answers Q (goes_on r k)
    go (Ok r) = (next r.0).at r.1
    go (Err s) = tt

done_always : {A : Type 0} {P : A → Type 0} {a : A} → P a → Always P (done a)
done_always p = record { at = λ left. p }

-- ---- chains

braces_counted : (t : Tree) → brace_count t ≤ chain_length t
braces_counted (pi Braced m n a b s) = let h = braces_counted b in omega (arith, h)
braces_counted (pi Written m n a b s) = omega arith
braces_counted (pi Inserted m n a b s) = omega arith
braces_counted t = omega arith

params_counted : (ps : List Param) (t : Tree) → chain_length (behind_params ps t) ≡ length ps + chain_length t
params_counted [] t = omega arith
params_counted (param m n a s ∷ ps) t = let e = params_counted ps t in omega (arith, e)

definition_has : (t : Tree) → HasItsBinders (definition_sig t)
definition_has t = let h = braces_counted t in omega (arith, h)

constructor_has : (ps : List Param) (t : Tree) → HasItsBinders (constructor_sig ps t)
constructor_has ps t = let h = braces_counted t in let e = params_counted ps t in omega (arith, h, e)

family_has : (ps : List Param) (t : Tree) → HasItsBinders (family_sig ps t)
family_has ps t = omega arith

-- ---- own items

abbrev OwnHas : List ℕ × Sig → Type 0
OwnHas o = HasItsBinders o.1

cons_have : (ps : List Param) (cs : List Con) → Each OwnHas (map (own_con ps) cs)
cons_have ps [] = tt
cons_have ps (con n t s ∷ cs) = (constructor_has ps t, cons_have ps cs)

each_of_both : {A : Type 0} (P : A → Type 0) (xs ys : List A) → Each P xs → Each P ys → Each P (xs ++ ys)
each_of_both P [] ys a b = b
each_of_both P (x ∷ xs) ys a b = (a.0, each_of_both P xs ys a.1 b)

-- what an item adds
abbrev Adds : Grown → Type 0
Adds g = Each OwnHas g.own

item_adds : (K : Known) (i : Item) → Always Adds (walk_item K i)
unfolding walk_item
item_adds K (family n ns ps t cs s) =
    then_always (walk_params K [] ps) (λ ps'. then_always (walk K ps'.types t)
    (λ t'. then_always _ (λ cs'. done_always (family_has ps'.params t'.tree, cons_have ps'.params cs'))))
item_adds K (typing p m n ns t s) = then_always (walk K [] t) (λ t'. done_always (definition_has t'.tree, tt))
item_adds K (clause n ps side s) = then_always _ (λ ps'. then_always _ (λ side'. done_always tt))

-- ---- texts

abbrev ItemAdds : Result Grown Refusal → Type 0
ItemAdds (Ok g) = Adds g
ItemAdds (Err e) = Unit {0}

abbrev ItemsHave : Result Filled Refusal → Type 0
ItemsHave (Ok r) = Each OwnHas r.own
ItemsHave (Err e) = Unit {0}

item_filled : (limit : ℕ) (K : Known) (i : Item) → ItemAdds (filled_item limit K i)
item_filled limit K i = by (nat_le (item_nodes i) limit)
  where
    grows : (r : Result (Grown × ℕ) Stop) → Answers Adds r → ItemAdds (grown limit (place_of i) r)
    grows (Ok r) p = p
    grows (Err e) p = tt

    by : (b : Bool) → ItemAdds (if b then grown limit (place_of i) (walk_item K i (limit - item_nodes i))
        else Err (Refusal.too_large (limit + 1) (place_of i)))
    by true = grows (walk_item K i (limit - item_nodes i)) ((item_adds K i).at (limit - item_nodes i))
    by false = tt

items_filled : (limit : ℕ) (K : Known) (is : List Item) → Each OwnHas K.own → ItemsHave (filled_items limit K is)
items_filled limit K [] h = h
items_filled limit K (i ∷ is) h =
    by (filled_item limit K i) (item_filled limit K i)
    (λ g own. items_filled limit (with_own g.own K) is (each_of_both OwnHas K.own g.own h own))
  where
    front : (g : Grown) (r : Result Filled Refusal) → ItemsHave r → ItemsHave (and_item g.item r)
    front g (Ok r) p = p
    front g (Err e) p = tt

    by : (r : Result Grown Refusal) → ItemAdds r →
        ((g : Grown) → Adds g → ItemsHave (filled_items limit (with_own g.own K) is)) →
        ItemsHave (item_then r (λ g. filled_items limit (with_own g.own K) is))
    by (Ok g) p more = front g (filled_items limit (with_own g.own K) is) (more g p)
    by (Err e) p more = tt

sigs_have : (own : List (List ℕ × Sig)) → Each OwnHas own →
    All HasItsBinders (map (λ (o : List ℕ × Sig). o.1) own)
sigs_have [] h = All-nil HasItsBinders
sigs_have (o ∷ own) h = All-cons HasItsBinders o.1 _ h.0 (sigs_have own h.1)

pub filled_have : (home : ModuleId) (imports : List Exports) (text : Module) (r : FilledText) →
    filled home imports text ≡ Ok r → All HasItsBinders r.sigs
filled_have home imports (module_text h n ns is items) r e =
    by (filled_items standard.filled_nodes (at_start home imports) items)
    (items_filled standard.filled_nodes (at_start home imports) items tt) e
  where
    by : (q : Result Filled Refusal) → ItemsHave q → with_items (module_text h n ns is) q ≡ Ok r →
        All HasItsBinders r.sigs
    by (Ok q) p f =
        let same : map (λ (o : List ℕ × Sig). o.1) q.own ≡ r.sigs = cc f in
        subst (All HasItsBinders) same (sigs_have q.own p)
    by (Err q) p f = absurd (cc f)

-- ---- Prim

abbrev all_have : List Sig → Bool
all_have [] = true
all_have (S ∷ more) = if nat_le (S.params + S.braces) (chain_length S.type) then all_have more else false

each_has : (sigs : List Sig) → all_have sigs ≡ true → All HasItsBinders sigs
each_has [] h = All-nil HasItsBinders
each_has (S ∷ more) h = by (nat_le (S.params + S.braces) (chain_length S.type)) refl h (each_has more)
  where
    by : (b : Bool) → nat_le (S.params + S.braces) (chain_length S.type) ≡ b →
        (if b then all_have more else false) ≡ true → (all_have more ≡ true → All HasItsBinders more) →
        All HasItsBinders (S ∷ more)
    by true e h rest = All-cons HasItsBinders S more (grind (arith, e)) (rest h)
    by false e h rest = absurd (cc h)

pub prim_have : All HasItsBinders prim_exports.sigs
prim_have = each_has prim_exports.sigs refl
