-- A text whose names stand for something: its signatures, and its groups of clauses, have names of their own.
use Rattle.std.proofs.Common.{◌≡◌, ℕ, suc, ◌+◌, ◌≤◌, Bool, true, false, List, [], ◌∷◌, ◌++◌, map, length, Some, None, Ok, IsTrue, cond, refl, sym, ap, subst, ◌∙◌, append_assoc, arith}
use Rattle.std.specs.List.{flat_map}
use Rattle.std.proofs.lemmas.Bool.{lt-ltb}
use Rattle.std.proofs.lemmas.List.{length-append}
use Rattle.qtt_base.specs.declared.place.ModuleId.{ModuleId}
use Rattle.qtt_syntax.specs.Tree.{Con, Item, Module}
use Rattle.qtt_syntax.specs.Tree.Module.{module_text}
use Rattle.qtt_names.specs.declared.scope.OwnItem.{OwnItem}
use Rattle.qtt_names.specs.PrimNames.{scope_of}
use Rattle.qtt_names.specs.Resolved.{Before, at_start, count_of, behind, resolved}
use Rattle.qtt_names.specs.Scope.{Scope, Imported, same_name, declared, constructor_name, with_items}
use Rattle.qtt_names.specs.Target.{if_earlier, own_item}
use Rattle.qtt_module.specs.Text.{items_in}
use Rattle.qtt_module.specs.Declarations.{Declaration, declarations}
use Rattle.qtt_accepted.specs.Stages.{group_names, signature_names, all_differ}
use Rattle.qtt_accepted.proofs.Outlines.{outlines, signed, grouped, Each, SameHeads, signatures-so, groups-so, same-is, same-heads}
use Rattle.qtt_accepted.proofs.Passing.{AllNew, text-passes, of_value}
use Rattle.qtt_accepted.proofs.Grouped.{Fresh, none-any, fresh-differ, groups-fresh}
use Rattle.qtt_accepted.proofs.Owned.{Numbered, later, declared-so}

-- ---- an item that is there is no new one
not-new : (s : Scope) (k : ℕ) (n : List ℕ) → Numbered n s.own k → own_item s k n ≡ None → ⊥
not-new s k n (i, e, b) h =
    let earlier : if_earlier k (Some i) ≡ Some i = ap (λ c. cond c (Some i) None) (lt-ltb i.number k b) in
    let same : None ≡ Some i = sym h ∙ ap (if_earlier k) e ∙ earlier in absurd (cc same)

-- a name that is new is none of those that are there
none-there : (s : Scope) (k : ℕ) (n : List ℕ) (ns : List (List ℕ)) → own_item s k n ≡ None →
    Each (λ m. Numbered m s.own k) ns → Each (λ m. same_name n m ≡ false) ns
none-there s k n [] h a = tt
none-there s k n (m ∷ ns) h a = (by_test (same_name n m) refl, none-there s k n ns h a.1)
  where
    by_test : (b : Bool) → same_name n m ≡ b → same_name n m ≡ false
    by_test true t =
        absurd (not-new s k n (subst (λ l. Numbered l s.own k) (sym (same-is n m t)) a.0) h)
    by_test false t = t

all-later : (own : List (List ℕ × OwnItem)) (k l : ℕ) (ns : List (List ℕ)) → k ≤ l →
    Each (λ m. Numbered m own k) ns → Each (λ m. Numbered m own l) ns
all-later own k l [] h a = tt
all-later own k l (m ∷ ns) h a = (later m own k l h a.0, all-later own k l ns h a.1)

each-append : (P : List ℕ → Type 0) (ns : List (List ℕ)) (m : List ℕ) → Each P ns → P m → Each P (ns ++ m ∷ [])
each-append P [] m a p = (p, tt)
each-append P (n ∷ ns) m a p = (a.0, each-append P ns m a.1 p)

-- ---- signatures
map-length : (cs : List Con) → length (map constructor_name cs) ≡ length cs
map-length [] = refl
map-length (c ∷ cs) = ap suc (map-length cs)

counted : (i : Item) → length (declared i) ≡ count_of i
counted (Item.family n r ps t cs s) = let e = map-length cs in omega (arith, e)
counted (Item.signature p q n r t s) = refl
counted (Item.clause n ps e s) = refl

-- behind an item its names too are declared
own-behind : (own : List (List ℕ × OwnItem)) (front : List (List ℕ × Bool)) (i : Item) (is : List Item) →
    own ≡ with_items [] 0 (front ++ flat_map declared (i ∷ is)) →
    own ≡ with_items [] 0 ((front ++ declared i) ++ flat_map declared is)
own-behind own front i is e =
    e ∙ ap (with_items [] 0) (sym (append_assoc front (declared i) (flat_map declared is)))

count-behind : (front : List (List ℕ × Bool)) (i : Item) (k : ℕ) → length front ≡ k →
    length (front ++ declared i) ≡ k + count_of i
count-behind front i k e =
    let a = length-append front (declared i) in let c = counted i in omega (arith, e, a, c)

-- the signatures of items that stand behind these declared names, of which some are of signatures
signatures-fresh : (s : Scope) (b : Before) (front : List (List ℕ × Bool)) (ns : List (List ℕ)) (is : List Item) →
    s.own ≡ with_items [] 0 (front ++ flat_map declared is) → length front ≡ b.items →
    Each (λ m. Numbered m s.own b.items) ns → AllNew s b is → Fresh ns (signed (outlines is))
signatures-fresh s b front ns [] own count there a = tt
signatures-fresh s b front ns (Item.family n r ps t cs span ∷ is) own count there a =
    let i : Item = Item.family n r ps t cs span in
    signatures-fresh s (behind b i) (front ++ declared i) ns is (own-behind s.own front i is own)
    (count-behind front i b.items count) (all-later s.own b.items (b.items + count_of i) ns (omega arith) there) a.1
signatures-fresh s b front ns (Item.signature p q n r t span ∷ is) own count there a =
    let i : Item = Item.signature p q n r t span in
    let this : Numbered n s.own (suc (length front)) =
    subst (λ l. Numbered n l (suc (length front))) (sym own)
    (declared-so front (flat_map declared is) n true) in (
      none-any (same_name n) ns (none-there s b.items n ns a.0 there),
      signatures-fresh s (behind b i) (front ++ declared i) (ns ++ n ∷ []) is (own-behind s.own front i is own)
          (count-behind front i b.items count)
          (each-append (λ m. Numbered m s.own (b.items + 1)) ns n
          (all-later s.own b.items (b.items + 1) ns (omega arith) there)
          (later n s.own (suc (length front)) (b.items + 1) (omega (arith, count)) this)) a.1,
    )
signatures-fresh s b front ns (Item.clause n ps side span ∷ is) own count there a =
    let i : Item = Item.clause n ps side span in
    signatures-fresh s (behind b i) (front ++ declared i) ns is (own-behind s.own front i is own)
    (count-behind front i b.items count) (all-later s.own b.items (b.items + count_of i) ns (omega arith) there) a.1

-- ---- texts
-- the groups of clauses have names of their own, and so have the signatures
pub record TakenOnce (ds : List Declaration) : Type 0 where
  pub groups : IsTrue (all_differ (group_names ds))
  pub signatures : IsTrue (all_differ (signature_names ds))

pub names-taken-once : (home : ModuleId) (imports : List Imported) (m t : Module) →
    resolved (scope_of home m imports) m ≡ Ok t → TakenOnce (declarations (items_in t))
names-taken-once home imports (module_text h n ns is items) t e =
    let m : Module = module_text h n ns is items in
    let s : Scope = scope_of home m imports in
    let p = of_value (text-passes s m) e in
    record {
      groups = ap all_differ (groups-so (items_in t) ∙ ap (grouped None) p.0)
          ∙ fresh-differ (grouped None (outlines items)) (groups-fresh s at_start items p.1);
      signatures = ap all_differ (signatures-so (items_in t) ∙ ap signed p.0)
          ∙ fresh-differ (signed (outlines items)) (signatures-fresh s at_start [] [] items refl refl tt p.1);
    }

pub names-keep-heads : (s : Scope) (m t : Module) → resolved s m ≡ Ok t →
    SameHeads (declarations (items_in m)) (declarations (items_in t))
names-keep-heads s m t e = same-heads (items_in m) (items_in t) (of_value (text-passes s m) e).0
