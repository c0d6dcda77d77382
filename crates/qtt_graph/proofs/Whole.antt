-- Which graphs are whole.
use Rattle.std.proofs.Common.{◌≡◌, true, false, List, Some, refl, sym, subst, Bool, cond, [], ◌∷◌, map, ◌⊎◌, inl, inr}
use Rattle.std.specs.Prelude.{filter, find}
use Rattle.std.specs.List.{list_all}
use Rattle.std.proofs.lemmas.Bool.{and_parts}
use Rattle.qtt_syntax.specs.declared.module.Import.{Import}
use Rattle.qtt_graph.specs.Graph.{Name, Header, Graph, counts, import_name, imports_in, names, same_name, is_among, all_differ, is_there, all_there, is_whole}
use Rattle.qtt_graph.specs.Laws.{Closed}
use Rattle.qtt_graph.proofs.Among.{in-cases}

-- ---- whole graphs
kept-there : (ns : List Name) (is : List Import) (b : Name) → all_there ns is ≡ true →
    is_among (map import_name (filter counts is)) b ≡ true → is_among ns b ≡ true
kept-there ns [] b all i = absurd (cc i)
kept-there ns (i ∷ is) b all j =
    let parts = and_parts (is_there ns i) (all_there ns is) all in
    by_test (counts i) refl parts.0 (kept-there ns is b parts.1)
  where
    by_test : (t : Bool) → counts i ≡ t → is_there ns i ≡ true →
        (is_among (map import_name (filter counts is)) b ≡ true → is_among ns b ≡ true) → is_among ns b ≡ true
    by_test true e here later =
        let there = subst (λ t. cond t (is_among ns i.name) true ≡ true) e here in
        by_case there (in-cases b i.name (map import_name (filter counts is))
        (subst (λ t. is_among (map import_name (cond t (i ∷ filter counts is) (filter counts is))) b ≡ true) e j))
      where
        by_case : is_among ns i.name ≡ true →
            (b ≡ i.name) ⊎ (is_among (map import_name (filter counts is)) b ≡ true) → is_among ns b ≡ true
        by_case there (inl same) = subst (λ a. is_among ns a ≡ true) (sym same) there
        by_case there (inr k) = later k
    by_test false e here later =
        later (subst (λ t. is_among (map import_name (cond t (i ∷ filter counts is) (filter counts is))) b ≡ true) e j)

found-there : (ns : List Name) (g : Graph) (a b : Name) →
    list_all (λ (h : Header). all_there ns h.imports) g ≡ true →
    is_among (map import_name (imports_in (find (λ h. same_name h.name a) g))) b ≡ true → is_among ns b ≡ true
found-there ns [] a b all i = absurd (cc i)
found-there ns (h ∷ hs) a b all i =
    let parts = and_parts (all_there ns h.imports) (list_all (λ (h : Header). all_there ns h.imports) hs) all in
    by_test (same_name h.name a) refl parts.0 (found-there ns hs a b parts.1)
  where
    by_test : (t : Bool) → same_name h.name a ≡ t → all_there ns h.imports ≡ true →
        (is_among (map import_name (imports_in (find (λ h. same_name h.name a) hs))) b ≡ true → is_among ns b ≡ true) →
        is_among ns b ≡ true
    by_test true e here later =
        kept-there ns h.imports b here
        (subst (λ t. is_among (map import_name (imports_in (cond t (Some h) (find
        (λ h. same_name h.name a) hs)))) b ≡ true) e i)
    by_test false e here later =
        later (subst (λ t. is_among (map import_name (imports_in (cond t (Some h) (find
        (λ h. same_name h.name a) hs)))) b ≡ true) e i)

pub whole-differs : (g : Graph) → is_whole g ≡ true → all_differ (names g) ≡ true
whole-differs g e = (and_parts (all_differ (names g)) _ e).0

pub whole-closed : (g : Graph) → is_whole g ≡ true → Closed g
whole-closed g e a b i = found-there (names g) g a b (and_parts (all_differ (names g)) _ e).1 i
