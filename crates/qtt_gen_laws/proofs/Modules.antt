-- Generated texts are read as the trees that they were printed from.
use Rattle.std.proofs.Common.{◌≡◌, ℕ, zero, suc, ◌-◌, ◌<◌, ◌≤◌, ◌^◌, List, [], ◌∷◌, ◌++◌, length, map, flat_map, None, Ok, refl, sym, ap, subst, ◌∙◌, arith, codes}
use Rattle.std.proofs.lemmas.Grind.{flat_map-append}
use Rattle.qtt_base.specs.Limits.{standard}
use Rattle.qtt_lexer.specs.Lexed.{lexed}
use Rattle.qtt_layout.specs.declared.laid.Laid.{Laid}
use Rattle.qtt_syntax.specs.Tree.{Item, Module}
use Rattle.qtt_syntax.specs.Tree.Item.{family, signature, clause}
use Rattle.qtt_syntax.specs.Tree.Module.{module_text as tree_of_module}
use Rattle.qtt_syntax.specs.Printing.{printed}
use Rattle.qtt_phrase.specs.Reading.{Read}
use Rattle.qtt_phrase.specs.Reading.Read.{got, bad, over}
use Rattle.qtt_grammar.specs.declared.class.Pass.TheVariants.{Counts, Free}
use Rattle.qtt_grammar.specs.declared.lexeme.Lexeme.{Lexeme}
use Rattle.qtt_grammar.specs.declared.stop.Excess.{Excess}
use Rattle.qtt_grammar.specs.Chain.{IsChained, module_excess, items_excess}
use Rattle.qtt_grammar.specs.Grammar.{IsText}
use Rattle.qtt_grammar.specs.Joined.{outcome_of, read_whole}
use Rattle.qtt_grammar.specs.Lexeme.{lexemes}
use Rattle.qtt_grammar.specs.Outcome.{Exceeds, Never}
use Rattle.qtt_grammar.specs.Outcome.Outcome.{tree}
use Rattle.qtt_grammar.specs.Parsed.{whole, parsed}
use Rattle.qtt_grammar.proofs.Outcomes.{outcome_is_read, same_outcome}
use Rattle.qtt_reprint.specs.Unplaced.{bare_item, bare_module}
use Rattle.qtt_reprint.proofs.Formed as formed
use Rattle.qtt_reprint.proofs.Steps.{Fit}
use Rattle.qtt_gen.specs.Generated.{below, module_name, module_text, main_text, modules_of, generated}
use Rattle.qtt_gen.specs.Canonical.{module_tree, main_tree}
use Rattle.qtt_gen.specs.Laws.{Canonical}
use Rattle.qtt_gen_laws.specs.Read.{header_name, IsReadAs, AreReadAs, trees_of, generated_trees}
use Rattle.qtt_reprint.proofs.PrintedAgain.{formed_read_again}
use Rattle.qtt_gen_laws.proofs.Lengths.{module_few, main_few}
use Rattle.qtt_gen_laws.proofs.Trees.{Within, module_formed, main_formed}

-- ---- no index or field is one too many

-- none of the items is a family
abbrev No_families : List Item → Type 0
No_families [] = Unit {0}
No_families (family n ns ps t cs s ∷ more) = ⊥
No_families (signature p m n ns t s ∷ more) = No_families more
No_families (clause n ps side s ∷ more) = No_families more

bare_families : (ts : List Item) → No_families (map bare_item ts) → No_families ts
bare_families [] h = tt
bare_families (family n ns ps t cs s ∷ more) h = h
bare_families (signature p m n ns t s ∷ more) h = bare_families more h
bare_families (clause n ps side s ∷ more) h = bare_families more h

families_exceed : (ts : List Item) → No_families ts → items_excess ts ≡ None
families_exceed [] h = refl
families_exceed (family n ns ps t cs s ∷ more) h = absurd h
families_exceed (signature p m n ns t s ∷ more) h = families_exceed more h
families_exceed (clause n ps side s ∷ more) h = families_exceed more h

abbrev Has_no_families : Module → Type 0
Has_no_families (tree_of_module s n ns is ts) = No_families (map bare_item ts)

without_families : (t u : Module) → bare_module u ≡ bare_module t → Has_no_families t → module_excess u ≡ None
without_families (tree_of_module s n ns is ts) (tree_of_module z m ms js us) e h =
    let same : map bare_item us ≡ map bare_item ts = cc in
    families_exceed us (bare_families us (subst No_families (sym same) h))

never_exceeds : (ls : List Lexeme) (u : Module) → IsText Free ls u None → module_excess u ≡ None → Never (Exceeds ls)
never_exceeds ls u m none e s =
    absurd (let h =
    s.each s.rest tt None (subst (λ (z : List Lexeme). IsChained z tt None) s.parts (u, m, none)) in cc)

-- ---- the last stage

tree_told : (r : Read Lexeme Excess Module) (t : Module) → outcome_of r ≡ tree t → whole r ≡ Ok t
tree_told (got u []) t e = (let h : u ≡ t = (let g = e in cc) in ap (λ (v : Module). Ok v) h)
tree_told (got u (x ∷ ls)) t e = absurd (let g = e in cc)
tree_told (bad k ls) t e = absurd (let g = e in cc)
tree_told (over f ls) t e = absurd (let g = e in cc)

text_parsed : (ms : List Laid) (t : Module) → IsText Counts (lexemes ms) t None → Never (Exceeds (lexemes ms)) →
    parsed ms ≡ Ok t
text_parsed ms t m never =
    let ls = lexemes ms in
    tree_told (read_whole ls) t (same_outcome ls (outcome_of (read_whole ls)) (tree t) (outcome_is_read ls) (m, never))

-- ---- a text

same_header : (t u : Module) → bare_module u ≡ bare_module t → header_name u ≡ header_name t
same_header (tree_of_module s n ns is ts) (tree_of_module z m ms js us) e = cc

read_as : (text : List ℕ) (t : Module) → text ≡ printed t → length text ≤ standard.text_bytes → Has_no_families t →
    formed.Module_formed Fit Counts 200 199 t → formed.Module_formed Fit Free 200 199 t →
    IsReadAs (header_name t) text t
read_as text t e few none f g =
    let r = formed_read_again Counts t f in
    let x = r.is_text Counts f in
    let y = r.is_text Free g in
    record {
      from = e;
      few = few;
      tokens = r.tokens;
      are_lexed = ap lexed e ∙ r.are_lexed;
      marks = r.marks;
      are_laid = r.are_laid;
      tree = x.0;
      is_parsed =
          text_parsed r.marks x.0 x.1
          (never_exceeds (lexemes r.marks) y.0 y.1 (without_families t y.0 y.2 none));
      same = x.2;
      named = same_header t x.0 x.2;
    }

module_read : Canonical → (i j : ℕ) → Within i j → IsReadAs (module_name i j) (module_text i j) (module_tree i j)
module_read c i j w =
    read_as (module_text i j) (module_tree i j) (c.of_module i j) (omega (arith, module_few i j w.small)) tt
    (module_formed Counts i j w) (module_formed Free i j w)

main_read : Canonical → (i : ℕ) → i < 2 ^ 64 → IsReadAs (codes "Main") (main_text i) (main_tree i)
main_read c i h =
    read_as (main_text i) (main_tree i) (c.of_main i) (omega (arith, main_few i h)) tt (main_formed Counts i h)
    (main_formed Free i h)

-- ---- all texts

append_read : (ms ns : List (List ℕ × List ℕ)) (ts us : List Module) → AreReadAs ms ts → AreReadAs ns us →
    AreReadAs (ms ++ ns) (ts ++ us)
append_read [] ns [] us h k = k
append_read (m ∷ ms) ns (t ∷ ts) us h k = (h.0, append_read ms ns ts us h.1 k)
append_read [] ns (t ∷ ts) us h k = absurd h
append_read (m ∷ ms) ns [] us h k = absurd h

within : (i j : ℕ) → i < 2 ^ 61 → j < 4 → Within i j
within i j h k = record {
  small = record { first = omega (arith, h); second = omega (arith, k); both = omega (arith, h, k) };
  constant = omega (arith, h, k);
}

four_read : Canonical → (i : ℕ) → i < 2 ^ 61 → AreReadAs (modules_of i) (trees_of i)
four_read c i h =
    let one : (j : ℕ) → j < 4 → IsReadAs (module_name i j) (module_text i j) (module_tree i j) =
    λ j k. module_read c i j (within i j h k) in
    (one 0 (omega arith), (one 1 (omega arith), (one 2 (omega arith), (one 3 (omega arith), tt))))

modules_read : Canonical → (n : ℕ) → n ≤ 2 ^ 61 →
    AreReadAs (flat_map modules_of (below n)) (flat_map trees_of (below n))
modules_read c zero h = tt
modules_read c (suc n) h =
    rw (flat_map-append modules_of (below n) (n ∷ []), flat_map-append trees_of (below n) (n ∷ []))
    (append_read (flat_map modules_of (below n)) (flat_map modules_of (n ∷ [])) (flat_map trees_of (below n))
    (flat_map trees_of (n ∷ [])) (modules_read c n (omega (arith, h)))
    (append_read (modules_of n) [] (trees_of n) [] (four_read c n (omega (arith, h))) tt))

pub generated_read : Canonical → (n : ℕ) → n ≤ 2 ^ 61 → AreReadAs (generated n) (generated_trees n)
generated_read c n h =
    append_read (flat_map modules_of (below n)) _ (flat_map trees_of (below n)) _ (modules_read c n h)
    (main_read c (n - 1) (omega (arith, h)), tt)
