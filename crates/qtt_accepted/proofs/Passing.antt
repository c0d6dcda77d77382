-- Looking up names keeps the outlines of items, and each signature and each group of clauses is new.
use Rattle.std.proofs.Common.{◌≡◌, ℕ, ◌+◌, Bool, true, false, List, [], ◌∷◌, Option, Some, None, Result, Ok, Err, cond, refl, subst}
use mathlib.Core.Path.{ap₂}
use Rattle.qtt_base.specs.declared.place.Span.{Span}
use Rattle.qtt_syntax.specs.Tree.{Item, Module}
use Rattle.qtt_syntax.specs.Tree.Module.{module_text}
use Rattle.qtt_names.specs.Answer.{Answer, unbound, ◌>>=◌}
use Rattle.qtt_names.specs.declared.scope.OwnItem.{OwnItem}
use Rattle.qtt_names.specs.Filled.{filled}
use Rattle.qtt_names.specs.Resolved.{Before, at_start, tail_hole, new_hole, if_new, new_item, param_names, filled_params, filled_chain, filled_cons, new_group, is_definition, new_clause, variables_in, filled_patterns, filled_item, behind, filled_items, resolved}
use Rattle.qtt_names.specs.Scope.{Scope}
use Rattle.qtt_names.specs.Target.{own_item, look_up}
use Rattle.qtt_module.specs.Text.{items_in}
use Rattle.qtt_accepted.proofs.Outlines.{outline, outlines}

-- ---- what holds of the value, where there is one
abbrev pub OfValue : {A E : Type 0} → (A → Type 0) → Result A E → Type 0
OfValue P (Ok a) = P a
OfValue P (Err e) = Unit {0}

pub record Gives {A E : Type 0} (P : A → Type 0) (r : Result A E) : Type 0 where
  pub it : OfValue P r

pub then_gives : {A B : Type 0} {P : A → Type 0} {Q : B → Type 0} {r : Answer A} {k : A → Answer B} →
    Gives P r → ((a : A) → P a → Gives Q (k a)) → Gives Q (r >>= k)
unfolding ◌>>=◌
then_gives {A} {B} {P} {Q} {r} {k} h next = by r h.it
  where
    by : (r : Answer A) → OfValue P r → Gives Q (r >>= k)
    by (Ok a) p = next a p
    by (Err e) p = record { it = tt }

pub ok_gives : {A E : Type 0} {P : A → Type 0} {a : A} → P a → Gives {E = E} P (Ok a)
ok_gives p = record { it = p }

-- the value is what it gives
pub itself : {A E : Type 0} (r : Result A E) → Gives (λ a. r ≡ Ok a) r
itself (Ok a) = record { it = refl }
itself (Err e) = record { it = tt }

pub of_value : {A E : Type 0} {P : A → Type 0} {r : Result A E} {a : A} → Gives P r → r ≡ Ok a → P a
of_value {A} {E} {P} {r} {a} h e = subst (OfValue P) e h.it

-- ---- what is new
abbrev pub IsNew : Scope → Before → Item → Type 0
IsNew s b (Item.family n r ps t cs span) = Unit {0}
IsNew s b (Item.signature p q n r t span) = own_item s b.items n ≡ None
IsNew s b (Item.clause n ps side span) = new_group b.last b.groups n span ≡ Ok tt

abbrev pub AllNew : Scope → Before → List Item → Type 0
AllNew s b [] = Unit {0}
AllNew s b (i ∷ is) = IsNew s b i × AllNew s (behind b i) is

new-name : (o : Option OwnItem) (n : List ℕ) (span : Span) (u : Unit {0}) → if_new o n span ≡ Ok u → o ≡ None
new-name None n span u e = refl
new-name (Some item) n span u e = absurd (cc e)

new-clause : (b : Bool) (r : Answer (Unit {0})) (n : List ℕ) (span : Span) (u : Unit {0}) →
    cond b r (unbound n span) ≡ Ok u → r ≡ Ok tt
new-clause true r n span u e = e
new-clause false r n span u e = absurd (cc e)

-- ---- items
item-passes : (s : Scope) (b : Before) (i : Item) →
    Gives (λ j. (outline j ≡ outline i) × IsNew s b i) (filled_item s b i)
unfolding filled_item
item-passes s b (Item.family n r ps t cs span) =
    then_gives (itself (new_item s b.items n r)) (λ u p.
    then_gives (itself (filled_params (look_up s b.items) [] ps)) (λ v q.
    then_gives (itself (filled_chain (look_up s b.items) (param_names ps) t)) (λ w h.
    then_gives (itself (filled_cons s (look_up s (b.items + 1)) (param_names ps) (b.items + 1) cs)) (λ x k.
    ok_gives (refl, tt)))))
item-passes s b (Item.signature p q n r t span) =
    then_gives (itself (new_item s b.items n r)) (λ u e.
    then_gives (itself (filled (look_up s b.items) [] t)) (λ v h.
    ok_gives (refl, new-name (own_item s b.items n) n r u e)))
item-passes s b (Item.clause n ps side span) =
    then_gives (itself (new_clause s b.items b.last b.groups n span)) (λ u e.
    then_gives (itself (filled_patterns (look_up s b.items) (variables_in ps) [] ps)) (λ v q.
    then_gives (itself (filled (look_up s b.items) (variables_in ps) side)) (λ w h.
    then_gives (itself (new_hole b.holes (tail_hole side))) (λ x k.
    ok_gives
    (refl, new-clause (is_definition (own_item s b.items n)) (new_group b.last b.groups n span) n span u e)))))

items-pass : (s : Scope) (b : Before) (is : List Item) →
    Gives (λ js. (outlines js ≡ outlines is) × AllNew s b is) (filled_items s b is)
items-pass s b [] = ok_gives (refl, tt)
items-pass s b (i ∷ is) =
    then_gives (item-passes s b i) (λ j p.
    then_gives (items-pass s (behind b i) is) (λ js q.
    ok_gives (ap₂ (λ o os. o ∷ os) p.0 q.0, (p.1, q.1))))

pub text-passes : (s : Scope) (m : Module) →
    Gives (λ t. (outlines (items_in t) ≡ outlines (items_in m)) × AllNew s at_start (items_in m)) (resolved s m)
text-passes s (module_text h n ns is items) =
    then_gives (items-pass s at_start items) (λ js p. ok_gives p)
