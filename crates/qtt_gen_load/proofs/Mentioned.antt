-- The names that imports mention: each is that of an import, and none stands twice among those that are known.
use Rattle.std.proofs.Common.{◌≡◌, Bool, true, false, ◌&&◌, ◌||◌, cond, List, [], ◌∷◌, ◌++◌, refl, sym, ap, ◌∙◌, subst, append_assoc}
use Rattle.std.specs.Prelude.{not}
use Rattle.std.proofs.lemmas.List.{append-nil}
use Rattle.qtt_syntax.specs.declared.module.Import.{Import}
use Rattle.qtt_graph.specs.Graph.{Name, same_name, is_among, counts}
use Rattle.qtt_load.specs.Loading.{mentioned}
use Rattle.qtt_gen_load.proofs.Imported.{AllImport}
use Rattle.qtt_gen_load.proofs.Read.{same_self}
use Rattle.qtt_gen_load.proofs.Counted.{AllOf, all_append, Once}

-- the import counts, and its name is not known
abbrev is_new : List Name → Import → Bool
is_new known i = counts i && not (is_among known i.name)

pub mentioned_all : (P : Name → Type 0) (known : List Name) (is : List Import) → AllImport P is →
    AllOf P (mentioned known is)
mentioned_all P known [] h = tt
mentioned_all P known (i ∷ more) h =
    by_test (is_new known i) (mentioned_all P (known ++ i.name ∷ []) more h.1) (mentioned_all P known more h.1)
  where
    by_test : (t : Bool) → AllOf P (mentioned (known ++ i.name ∷ []) more) → AllOf P (mentioned known more) →
        AllOf P (cond t (i.name ∷ mentioned (known ++ i.name ∷ []) more) (mentioned known more))
    by_test true with_it without = (h.0, with_it)
    by_test false with_it without = without

-- ---- none twice

neither : (p q : Bool) → (p || q) ≡ false → (p ≡ false) × (q ≡ false)
neither false q e = (refl, e)
neither true q e = absurd (cc e)

not_known : (p q : Bool) → (p && not q) ≡ true → q ≡ false
not_known true false e = refl
not_known true true e = absurd (cc e)
not_known false q e = absurd (cc e)

apart : (b a : Name) → same_name b a ≡ false → a ≡ b → ⊥
apart b a n e = absurd (cc (sym (ap (same_name b) e ∙ same_self b) ∙ n))

all_apart : (b : Name) (known : List Name) → is_among known b ≡ false → AllOf (λ a. a ≡ b → ⊥) known
all_apart b [] n = tt
all_apart b (a ∷ more) n =
    let d = neither (same_name b a) (is_among more b) n in (apart b a d.0, all_apart b more d.1)

once_behind : (b : Name) (known : List Name) → Once known → AllOf (λ a. a ≡ b → ⊥) known → Once (known ++ b ∷ [])
once_behind b [] o n = (tt, tt)
once_behind b (a ∷ more) o n =
    (all_append (λ c. a ≡ c → ⊥) more (b ∷ []) o.0 (n.0, tt), once_behind b more o.1 n.1)

pub mentioned_once : (known : List Name) (is : List Import) → Once known → Once (known ++ mentioned known is)
mentioned_once known [] o = subst Once (sym (append-nil known)) o
mentioned_once known (i ∷ more) o =
    by_test (is_new known i) refl (mentioned_once (known ++ i.name ∷ []) more) (mentioned_once known more o)
  where
    by_test : (t : Bool) → is_new known i ≡ t →
        (Once (known ++ i.name ∷ []) → Once ((known ++ i.name ∷ []) ++ mentioned (known ++ i.name ∷ []) more)) →
        Once (known ++ mentioned known more) →
        Once (known ++ cond t (i.name ∷ mentioned (known ++ i.name ∷ []) more) (mentioned known more))
    by_test true e with_it without =
        let new = all_apart i.name known (not_known (counts i) (is_among known i.name) e) in
        subst Once (append_assoc known (i.name ∷ []) (mentioned (known ++ i.name ∷ []) more))
        (with_it (once_behind i.name known o new))
    by_test false e with_it without = without
