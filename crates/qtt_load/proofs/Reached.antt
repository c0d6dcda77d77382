-- What is loaded is the named module, and what imports lead to from there.
use Rattle.std.proofs.Common.{◌≡◌, ℕ, zero, suc, Bool, true, false, cond, List, [], ◌∷◌, ◌++◌, map, Option, Some, Result, Ok, Err, refl, sym, ap, ◌∙◌, subst, ◌⊎◌, inl, inr}
use Rattle.std.specs.Prelude.{filter, find}
use Rattle.std.proofs.lemmas.Bool.{and_parts, or_cases}
use Rattle.qtt_syntax.specs.declared.module.Import.{Import}
use Rattle.qtt_syntax.specs.Tree.{Module}
use Rattle.qtt_graph.specs.Graph.{Name, Header, Graph, same_name, is_among, counts, header_of, import_name, imports_in, all_differ}
use Rattle.qtt_graph.specs.Ring.{Imports, Leads}
use Rattle.qtt_graph.specs.Ring.Leads.{by_import, onward}
use Rattle.qtt_load.specs.Reading.{Reading}
use Rattle.qtt_load.specs.Loading.{Stop, module_name, module_imports, mentioned, with_first, read_then, load}
use Rattle.qtt_load.specs.Laws.{ReadsAsNamed}
use Rattle.qtt_load.proofs.Known.{same-is, same-self, is_new, neither, not-false, not-parts, or-left, or-right, in-head, among-parts}

-- ---- what a module mentions
abbrev imported : List Import → List Name
imported is = map import_name (filter counts is)

-- one more in front keeps what is imported
imported-behind : (i : Import) (more : List Import) (b : Name) → is_among (imported more) b ≡ true →
    is_among (imported (i ∷ more)) b ≡ true
imported-behind i more b e = by_test (counts i)
  where
    by_test : (t : Bool) → is_among (map import_name (cond t (i ∷ filter counts more) (filter counts more))) b ≡ true
    by_test true = or-right (same_name b i.name) _ e
    by_test false = e

imported-first : (i : Import) (more : List Import) (b : Name) → counts i ≡ true → same_name b i.name ≡ true →
    is_among (imported (i ∷ more)) b ≡ true
imported-first i more b e same =
    subst (λ t. is_among (map import_name (cond t (i ∷ filter counts more) (filter counts more))) b ≡ true) (sym e)
    (or-left (same_name b i.name) _ same)

mentioned-imported : (known : List Name) (is : List Import) (b : Name) → is_among (mentioned known is) b ≡ true →
    is_among (imported is) b ≡ true
mentioned-imported known [] b e = absurd (cc e)
mentioned-imported known (i ∷ more) b e =
    by_test (mentioned-imported (known ++ i.name ∷ []) more b) (mentioned-imported known more b) (is_new known i) refl e
  where
    by_test : (is_among (mentioned (known ++ i.name ∷ []) more) b ≡ true → is_among (imported more) b ≡ true) →
        (is_among (mentioned known more) b ≡ true → is_among (imported more) b ≡ true) → (t : Bool) →
        is_new known i ≡ t →
        is_among (cond t (i.name ∷ mentioned (known ++ i.name ∷ []) more) (mentioned known more)) b ≡ true →
        is_among (imported (i ∷ more)) b ≡ true
    by_test with_it without false n d = imported-behind i more b (without d)
    by_test with_it without true n d =
        by_part (or_cases (same_name b i.name) (is_among (mentioned (known ++ i.name ∷ []) more) b) d)
      where
        by_part : (same_name b i.name ≡ true) ⊎ (is_among (mentioned (known ++ i.name ∷ []) more) b ≡ true) →
            is_among (imported (i ∷ more)) b ≡ true
        by_part (inl same) = imported-first i more b (not-parts (counts i) (is_among known i.name) n).0 same
        by_part (inr later) = imported-behind i more b (with_it later)

-- ---- what holds of the named module and goes over to imports
abbrev AllOf : (Name → Type 0) → List Name → Type 0
AllOf P ns = (b : Name) → is_among ns b ≡ true → P b

-- it goes over to the imports of each of these modules
abbrev GoesOver : (Name → Type 0) → List Module → Type 0
GoesOver P [] = Unit {0}
GoesOver P (m ∷ ms) = (P (module_name m) → AllOf P (imported (module_imports m))) × GoesOver P ms

abbrev HoldsOf : (Name → Type 0) → List Name → Result (List Module) Stop → Type 0
HoldsOf P waiting (Ok ms) = GoesOver P ms → AllOf P waiting → AllOf P (map module_name ms)
HoldsOf P waiting (Err s) = Unit {0}

none-hold : (P : Name → Type 0) (waiting : List Name) → HoldsOf P waiting (Ok [])
none-hold P waiting over all b e = absurd (cc e)

one-holds : (P : Name → Type 0) (known waiting : List Name) (a : Name) (m : Module) (ms : List Module) →
    module_name m ≡ a → HoldsOf P (waiting ++ mentioned known (module_imports m)) (Ok ms) →
    HoldsOf P (a ∷ waiting) (Ok (m ∷ ms))
one-holds P known waiting a m ms is later over all b e =
    by_part (or_cases (same_name b (module_name m)) (is_among (map module_name ms) b) e)
  where
    here : P (module_name m)
    here = subst P (sym is) (all a (in-head a waiting))

    waits : AllOf P (waiting ++ mentioned known (module_imports m))
    waits q i = by_waiting (among-parts q waiting (mentioned known (module_imports m)) i)
      where
        by_waiting : (is_among waiting q ≡ true) ⊎ (is_among (mentioned known (module_imports m)) q ≡ true) → P q
        by_waiting (inl j) = all q (or-right (same_name q a) _ j)
        by_waiting (inr j) = over.0 here q (mentioned-imported known (module_imports m) q j)

    by_part : (same_name b (module_name m) ≡ true) ⊎ (is_among (map module_name ms) b ≡ true) → P b
    by_part (inl same) = subst P (sym (same-is b (module_name m) same)) here
    by_part (inr j) = later over.1 waits b j

holds : (P : Name → Type 0) (root : Name) (read : Name → Reading Module) → ReadsAsNamed read → (n : ℕ)
    (known waiting : List Name) → HoldsOf P waiting (load root read n known waiting)
holds P root read named zero known [] = none-hold P []
holds P root read named (suc n) known [] = none-hold P []
holds P root read named zero known (a ∷ waiting) = tt
holds P root read named (suc n) known (a ∷ waiting) =
    by_read (λ m. holds P root read named n (known ++ mentioned known (module_imports m))
    (waiting ++ mentioned known (module_imports m))) (read a) refl
  where
    by_rest : (m : Module) → module_name m ≡ a → (r : Result (List Module) Stop) →
        HoldsOf P (waiting ++ mentioned known (module_imports m)) r → HoldsOf P (a ∷ waiting) (with_first m r)
    by_rest m is (Ok ms) h = one-holds P known waiting a m ms is h
    by_rest m is (Err s) h = tt

    by_read : ((m : Module) → HoldsOf P (waiting ++ mentioned known (module_imports m))
        (load root read n (known ++ mentioned known (module_imports m))
        (waiting ++ mentioned known (module_imports m)))) →
        (r : Reading Module) → read a ≡ r →
        HoldsOf P (a ∷ waiting)
        (read_then a r (λ m. load root read n (known ++ mentioned known (module_imports m))
        (waiting ++ mentioned known (module_imports m))))
    by_read later (Ok m) e = by_rest m (named a m e) _ (later m)
    by_read later (Err w) e = tt

-- ---- the graph of what was loaded
abbrev found-in : Graph → Name → Option Header
found-in g a = find (λ (h : Header). same_name h.name a) g

-- each of these modules is found by its name
abbrev AllFound : Graph → List Module → Type 0
AllFound g [] = Unit {0}
AllFound g (m ∷ ms) = (found-in g (module_name m) ≡ Some (header_of m)) × AllFound g ms

found-behind : (m : Module) (g : Graph) (ms : List Module) → is_among (map module_name ms) (module_name m) ≡ false →
    AllFound g ms → AllFound (header_of m ∷ g) ms
found-behind m g [] new all = tt
found-behind m g (x ∷ xs) new all =
    let apart = neither _ _ new in (
      ap (λ t. cond t (Some (header_of m)) (found-in g (module_name x))) apart.0 ∙ all.0,
      found-behind m g xs apart.1 all.1,
    )

all-found : (ms : List Module) → all_differ (map module_name ms) ≡ true → AllFound (map header_of ms) ms
all-found [] d = tt
all-found (m ∷ ms) d =
    let parts = and_parts _ _ d in (
      ap (λ t. cond t (Some (header_of m)) (found-in (map header_of ms) (module_name m))) (same-self (module_name m)),
      found-behind m (map header_of ms) ms (not-false (is_among (map module_name ms) (module_name m)) parts.0)
          (all-found ms parts.1),
    )

-- one import more
further : (g : Graph) {a b c : Name} → Leads g a b → Imports g b c → Leads g a c
further g (by_import i) j = onward i (by_import j)
further g (onward i l) j = onward i (further g l j)

abbrev pub Reached : Graph → Name → Name → Type 0
Reached g root a = (a ≡ root) ⊎ Leads g root a

goes-over : (g : Graph) (root : Name) (ms : List Module) → AllFound g ms → GoesOver (Reached g root) ms
goes-over g root [] found = tt
goes-over g root (m ∷ ms) found = (by_way, goes-over g root ms found.1)
  where
    imports : (b : Name) → is_among (imported (module_imports m)) b ≡ true → Imports g (module_name m) b
    imports b i = subst (λ o. is_among (map import_name (imports_in o)) b ≡ true) (sym found.0) i

    by_way : Reached g root (module_name m) → AllOf (Reached g root) (imported (module_imports m))
    by_way (inl e) b i = inr (by_import (subst (λ a. Imports g a b) e (imports b i)))
    by_way (inr l) b i = inr (further g l (imports b i))

pub all-reached : (read : Name → Reading Module) (root : Name) (n : ℕ) (ms : List Module) → ReadsAsNamed read →
    load root read n (root ∷ []) (root ∷ []) ≡ Ok ms → all_differ (map module_name ms) ≡ true → (a : Name) →
    is_among (map module_name ms) a ≡ true → Reached (map header_of ms) root a
all-reached read root n ms named is d =
    let P = Reached (map header_of ms) root in
    let over = goes-over (map header_of ms) root ms (all-found ms d) in
    subst (HoldsOf P (root ∷ [])) is (holds P root read named n (root ∷ []) (root ∷ [])) over front
  where
    front : AllOf (Reached (map header_of ms) root) (root ∷ [])
    front b i = by_part (or_cases (same_name b root) false i)
      where
        by_part : (same_name b root ≡ true) ⊎ (false ≡ true) → Reached (map header_of ms) root b
        by_part (inl same) = inl (same-is b root same)
        by_part (inr e) = absurd (cc e)
