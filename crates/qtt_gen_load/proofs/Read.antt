-- A text that is read as a tree is read by loading, as a tree with the same imports.
use Rattle.std.proofs.Common.{◌≡◌, ℕ, ◌≤◌, nat_lt, ◌&&◌, Bool, true, false, cond, List, [], ◌∷◌, map, length, codes, Result, Ok, Err, refl, sym, ap, ◌∙◌, subst, arith}
use Rattle.std.specs.Prelude.{not}
use Rattle.std.proofs.lemmas.Bool.{and_from, eq-eqb}
use Rattle.std.proofs.lemmas.Bool.Decides.{nat_tests}
use mathlib.Core.Path.{ap₂}
use Rattle.qtt_base.specs.Limits.{standard}
use Rattle.qtt_lexer.specs.Lexed.{Mistake, lexed}
use Rattle.qtt_lexer.specs.declared.token.Token.{Token}
use Rattle.qtt_layout.specs.Rules.{laid}
use Rattle.qtt_layout.specs.declared.laid.Laid.{Laid}
use Rattle.qtt_syntax.specs.declared.module.Import.{Import}
use Rattle.qtt_syntax.specs.Tree.{Module}
use Rattle.qtt_syntax.specs.Tree.Module.{module_text}
use Rattle.qtt_grammar.specs.Parsed.{parsed}
use Rattle.qtt_reprint.specs.Unplaced.{bare_import, bare_module}
use Rattle.qtt_gen_laws.specs.Read.{header_name, IsReadAs}
use Rattle.qtt_graph.specs.Graph.{Name, same_name}
use Rattle.qtt_load.specs.Reading.{Reading, ◌>>=◌, staged, too_long, wrong_name, has_name, tree_of_text, tree_of_module, read_text, read_in}
use Rattle.qtt_load.specs.Loading.{module_imports}
use Rattle.qtt_gen_load.specs.Texts.{texts_in}
use Rattle.qtt_gen_load.proofs.Given.{Not_prim}
use Rattle.qtt_gen_load.proofs.Imported.{AllImport}
use Rattle.qtt_gen_load.proofs.Found.{Found}

-- ---- the stages of a text

abbrev of_marks : Result (List Laid) Mistake → Reading Module
of_marks r = staged r >>= λ ms. staged (parsed ms)

abbrev of_tokens : Result (List Token) Mistake → Reading Module
of_tokens r = staged r >>= λ ts. of_marks (laid ts)

abbrev of_length : List ℕ → Bool → Reading Module
of_length text b = cond b (Err too_long) (Ok (tt {0})) >>= λ u. of_tokens (lexed text)

text_few : (text : List ℕ) → length text ≤ standard.text_bytes → nat_lt standard.text_bytes (length text) ≡ false
text_few text h = grind (arith, nat_tests)

text_read : (a text : List ℕ) (t : Module) (r : IsReadAs a text t) → tree_of_text text ≡ Ok r.tree
unfolding tree_of_text
text_read a text t r =
    ap (of_length text) (text_few text r.few) ∙ ap of_tokens r.are_lexed ∙ ap of_marks r.are_laid ∙
    ap staged r.is_parsed

-- ---- its name

pub same_self : (a : Name) → same_name a a ≡ true
same_self [] = refl
same_self (c ∷ cs) = and_from _ _ (eq-eqb c c refl) (same_self cs)

name_asked : (a : Name) (m : Module) → header_name m ≡ a → Not_prim a → has_name a m ≡ Ok tt
name_asked a (module_text h n ns is items) e p =
    let same : same_name n a ≡ true = ap (λ (b : Name). same_name b a) e ∙ same_self a in
    let other : same_name n (codes "Prim") ≡ false = ap (λ (b : Name). same_name b (codes "Prim")) e ∙ p in
    ap₂ (λ (s q : Bool). cond (s && not q) (Ok (tt {0})) (Err (wrong_name a n ns))) same other

module_read : (a : Name) (text : List ℕ) (m : Module) → tree_of_text text ≡ Ok m → header_name m ≡ a → Not_prim a →
    tree_of_module a text ≡ Ok m
unfolding tree_of_module
module_read a text m e n p =
    ap (λ (r : Reading Module). r >>= λ m. has_name a m >>= λ u. Ok m) e ∙
    ap (λ (r : Reading (Unit {0})). r >>= λ u. Ok m) (name_asked a m n p)

-- ---- its imports

without_places : (P : Name → Type 0) (is : List Import) → AllImport P is → AllImport P (map bare_import is)
without_places P [] h = tt
without_places P (i ∷ is) h = (h.0, without_places P is h.1)

with_places : (P : Name → Type 0) (is : List Import) → AllImport P (map bare_import is) → AllImport P is
with_places P [] h = tt
with_places P (i ∷ is) h = (h.0, with_places P is h.1)

bare_imports : (P : Name → Type 0) (m : Module) → AllImport P (module_imports m) →
    AllImport P (module_imports (bare_module m))
bare_imports P (module_text h n ns is items) a = without_places P is a

placed_imports : (P : Name → Type 0) (m : Module) → AllImport P (module_imports (bare_module m)) →
    AllImport P (module_imports m)
placed_imports P (module_text h n ns is items) a = with_places P is a

same_imports : (P : Name → Type 0) (u t : Module) → bare_module u ≡ bare_module t → AllImport P (module_imports t) →
    AllImport P (module_imports u)
same_imports P u t e h =
    placed_imports P u (subst (λ (m : Module). AllImport P (module_imports m)) (sym e) (bare_imports P t h))

-- ---- what is read

-- the module of this name is read, and imports such names
pub record Reads (P : Name → Type 0) (read : Name → Reading Module) (a : Name) : Type 0 where
  pub tree : Module
  pub is_read : read a ≡ Ok tree
  pub imports : AllImport P (module_imports tree)

pub found_is_read : (P : Name → Type 0) (texts : List (Name × List ℕ)) (a : Name) → Not_prim a → Found P texts a →
    Reads P (read_in (texts_in texts)) a
found_is_read P texts a p f =
    let r = f.is_read in
    record {
      tree = r.tree;
      is_read =
          ap (read_text a) f.is_found ∙ module_read a f.text r.tree (text_read a f.text f.tree r) r.named p;
      imports = same_imports P r.tree f.tree r.same f.imports;
    }
