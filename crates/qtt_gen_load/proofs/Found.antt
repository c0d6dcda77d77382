-- What is found under a name among texts that are read as trees.
use Rattle.std.proofs.Common.{◌≡◌, ℕ, Bool, true, false, cond, List, [], ◌∷◌, Option, Some, refl, sym, ap, ◌∙◌, subst, ◌⊎◌, inl, inr}
use Rattle.std.specs.Prelude.{find, option_map, bytes_eq}
use Rattle.std.proofs.lemmas.Slice.Eq.{bytes_eq-Decides}
use Rattle.qtt_syntax.specs.Tree.{Module}
use Rattle.qtt_gen_laws.specs.Read.{IsReadAs, AreReadAs}
use Rattle.qtt_graph.specs.Graph.{Name}
use Rattle.qtt_load.specs.Loading.{module_imports}
use Rattle.qtt_gen_load.specs.Texts.{text_in, texts_in}
use Rattle.qtt_gen_load.proofs.Given.{HasName}
use Rattle.qtt_gen_load.proofs.Imported.{AllImport, TreesImport}

-- the text of this name is there, and is read as a tree that imports such names
pub record Found (P : Name → Type 0) (texts : List (Name × List ℕ)) (a : Name) : Type 0 where
  pub text : List ℕ
  pub is_found : texts_in texts a ≡ Some text
  pub tree : Module
  pub is_read : IsReadAs a text tree
  pub imports : AllImport P (module_imports tree)

abbrev is_named : Name → Name × List ℕ → Bool
is_named a x = bytes_eq x.0 a

abbrev first_or : Bool → Name × List ℕ → List (Name × List ℕ) → Name → Option (List ℕ)
first_or b x xs a = option_map text_in (cond b (Some x) (find (λ (y : Name × List ℕ). bytes_eq y.0 a) xs))

pub found : (P : Name → Type 0) (xs : List (Name × List ℕ)) (ts : List Module) (a : Name) → AreReadAs xs ts →
    TreesImport P ts → HasName xs a → Found P xs a
found P [] ts a r i h = absurd h
found P (x ∷ xs) [] a r i h = absurd r
found P (x ∷ xs) (t ∷ ts) a r i h = by_test (found P xs ts a r.1 i.1) (bytes_eq x.0 a) refl h
  where
    behind : bytes_eq x.0 a ≡ false → Found P xs a → Found P (x ∷ xs) a
    behind e f = record {
      text = f.text;
      is_found = ap (λ (b : Bool). first_or b x xs a) e ∙ f.is_found;
      tree = f.tree;
      is_read = f.is_read;
      imports = f.imports;
    }

    by_test : (HasName xs a → Found P xs a) → (b : Bool) → bytes_eq x.0 a ≡ b → (x.0 ≡ a) ⊎ HasName xs a →
        Found P (x ∷ xs) a
    by_test later true e h = record {
      text = x.1;
      is_found = ap (λ (b : Bool). first_or b x xs a) e;
      tree = t;
      is_read = subst (λ (n : Name). IsReadAs n x.1 t) ((bytes_eq-Decides x.0 a).0 e) r.0;
      imports = i.0;
    }
    by_test later false e (inl same) = absurd (cc (sym e ∙ (bytes_eq-Decides x.0 a).1 same))
    by_test later false e (inr h) = behind e (later h)
