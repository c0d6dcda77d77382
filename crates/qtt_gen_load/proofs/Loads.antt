-- Generated modules are loaded.
use Rattle.std.proofs.Common.{◌≡◌, ℕ, zero, suc, ◌+◌, ◌≤◌, List, [], ◌∷◌, ◌++◌, length, codes, Ok, sym, ap, ◌∙◌, refl, arith}
use Rattle.std.proofs.lemmas.List.{length-append}
use Rattle.qtt_base.specs.Limits.{standard}
use Rattle.qtt_syntax.specs.Tree.{Module}
use Rattle.qtt_gen.specs.Generated.{generated}
use Rattle.qtt_gen_laws.specs.Read.{GeneratedTextsAreRead, generated_trees}
use Rattle.qtt_graph.specs.Graph.{Name}
use Rattle.qtt_load.specs.Reading.{Reading, read_in}
use Rattle.qtt_load.specs.Loading.{module_imports, mentioned, with_first, read_then, load, loaded}
use Rattle.qtt_gen_load.specs.Texts.{generated_texts}
use Rattle.qtt_gen_load.specs.Laws.{GeneratedAreThere, GeneratedAreLoaded}
use Rattle.qtt_gen_load.proofs.Given.{HasName, main_there, not_prim}
use Rattle.qtt_gen_load.proofs.Imported.{imports_there}
use Rattle.qtt_gen_load.proofs.Found.{found}
use Rattle.qtt_gen_load.proofs.Read.{Reads, found_is_read}
use Rattle.qtt_gen_load.proofs.Counted.{AllOf, all_append, Once, names_few, generated_length}
use Rattle.qtt_gen_load.proofs.Mentioned.{mentioned_all, mentioned_once}

-- where each module of such a name is read, and imports such names
module _ (texts : List (Name × List ℕ)) (root : Name) (read : Name → Reading Module)
    (reads : (a : Name) → HasName texts a → Reads (HasName texts) read a) where
  -- the known names differ and are those of texts, and so many more texts are read that each other name may wait too
  record Standing (k : ℕ) (known waiting : List Name) : Type 0 where
    once : Once known
    given : AllOf (HasName texts) known
    waits : AllOf (HasName texts) waiting
    enough : length texts + length waiting ≤ k + length known

  over : (known waiting : List Name) (a : Name) → Standing 0 known (a ∷ waiting) → ⊥
  over known waiting a s =
      let few = names_few known texts s.once s.given in
      let enough = s.enough in
      omega (arith, few, enough)

  after : (k : ℕ) (known waiting : List Name) (a : Name) → Standing (suc k) known (a ∷ waiting) → (m : Module) →
      AllOf (HasName texts) (mentioned known (module_imports m)) →
      Standing k (known ++ mentioned known (module_imports m)) (waiting ++ mentioned known (module_imports m))
  after k known waiting a s m h =
      let new = mentioned known (module_imports m) in
      let enough = s.enough in
      record {
        once = mentioned_once known (module_imports m) s.once;
        given = all_append (HasName texts) known new s.given h;
        waits = all_append (HasName texts) waiting new s.waits.1 h;
        enough = omega (arith, enough, length-append known new, length-append waiting new);
      }

  loads : (k : ℕ) (known waiting : List Name) → Standing k known waiting →
      (ms : List Module) × (load root read k known waiting ≡ Ok ms)
  loads zero known [] s = ([], refl)
  loads (suc k) known [] s = ([], refl)
  loads zero known (a ∷ waiting) s = absurd (over known waiting a s)
  loads (suc k) known (a ∷ waiting) s =
      let r = reads a s.waits.0 in
      let new = mentioned known (module_imports r.tree) in
      let rest = loads k (known ++ new) (waiting ++ new)
      (after k known waiting a s r.tree (mentioned_all (HasName texts) known (module_imports r.tree) r.imports)) in (
        r.tree ∷ rest.0,
        ap (λ (x : Reading Module). read_then a x (λ m. load root read k
            (known ++ mentioned known (module_imports m)) (waiting ++ mentioned known (module_imports m)))) r.is_read
            ∙ ap (with_first r.tree) rest.1,
      )

generated_reads : GeneratedTextsAreRead → (n : ℕ) → 1 ≤ n → n ≤ 200 → (a : Name) → HasName (generated n) a →
    Reads (HasName (generated n)) (read_in (generated_texts n)) a
generated_reads law n l h a i =
    found_is_read (HasName (generated n)) (generated n) a (not_prim n a i)
    (found (HasName (generated n)) (generated n) (generated_trees n) a (law n (omega (arith, h))) (imports_there n l) i)

pub are_loaded : GeneratedTextsAreRead → GeneratedAreLoaded
unfolding loaded
are_loaded law n l h =
    let few = generated_length n in
    loads (generated n) (codes "Main") (read_in (generated_texts n)) (generated_reads law n l h) standard.modules
    (codes "Main" ∷ []) (codes "Main" ∷ []) (record {
      once = (tt, tt);
      given = (main_there n, tt);
      waits = (main_there n, tt);
      enough = omega (arith, few, h);
    })

pub are_there : GeneratedTextsAreRead → GeneratedAreThere
are_there law n a l h e =
    let r = are_loaded law n l h in absurd (cc (sym r.1 ∙ e))
