-- What is loaded is a build.
use Rattle.std.proofs.Common.{◌≡◌, ℕ, zero, suc, ◌≤◌, true, ◌&&◌, List, [], ◌∷◌, ◌++◌, map, length, Result, Ok, Err, refl, sym, ap, ◌∙◌, subst, append_assoc, arith}
use Rattle.std.specs.List.{list_all}
use Rattle.std.proofs.lemmas.Bool.{and_from}
use Rattle.std.proofs.lemmas.List.{append-nil}
use Rattle.qtt_syntax.specs.Tree.{Module}
use Rattle.qtt_graph.specs.Graph.{Name, Header, header_of, names, is_among, all_differ, all_there}
use Rattle.qtt_load.specs.Reading.{Reading}
use Rattle.qtt_load.specs.Loading.{Stop, module_name, module_imports, mentioned, with_first, read_then, load, loaded}
use Rattle.qtt_load.specs.Laws.{ReadsAsNamed, IsBuild}
use Rattle.qtt_load.proofs.Known.{mentioned-differ, mentioned-there, all-there-front}
use Rattle.qtt_load.proofs.Reached.{all-reached}

-- each imports these names or Prim
abbrev AllThere : List Name → List Module → Type 0
AllThere ns [] = Unit {0}
AllThere ns (m ∷ ms) = (all_there ns (module_imports m) ≡ true) × AllThere ns ms

-- what is loaded where these are known and those wait: these, and then new ones, so many at most
record Rest (n : ℕ) (known waiting : List Name) (ms : List Module) : Type 0 where
  more : List Name
  named : map module_name ms ≡ waiting ++ more
  once : all_differ (known ++ more) ≡ true
  there : AllThere (known ++ more) ms
  few : length ms ≤ n

abbrev RestOf : ℕ → List Name → List Name → Result (List Module) Stop → Type 0
RestOf n known waiting (Ok ms) = Rest n known waiting ms
RestOf n known waiting (Err s) = Unit {0}

none-left : (n : ℕ) (known : List Name) → all_differ known ≡ true → Rest n known [] []
none-left n known d = record {
  more = [];
  named = refl;
  once = subst (λ ns. all_differ ns ≡ true) (sym (append-nil known)) d;
  there = tt;
  few = omega arith;
}

one-more : (n : ℕ) (known waiting : List Name) (a : Name) (m : Module) (ms : List Module) → module_name m ≡ a →
    Rest n (known ++ mentioned known (module_imports m)) (waiting ++ mentioned known (module_imports m)) ms →
    Rest (suc n) known (a ∷ waiting) (m ∷ ms)
one-more n known waiting a m ms is r =
    let new = mentioned known (module_imports m) in
    let joined = append_assoc known new r.more in
    record {
      more = new ++ r.more;
      named =
          ap (λ ns. module_name m ∷ ns) (r.named ∙ append_assoc waiting new r.more) ∙
          ap (λ (b : Name). b ∷ waiting ++ (new ++ r.more)) is;
      once = subst (λ ns. all_differ ns ≡ true) joined r.once;
      there = (
        subst (λ ns. all_there ns (module_imports m) ≡ true) joined
            (all-there-front (known ++ new) r.more (module_imports m) (mentioned-there known (module_imports m))),
        subst (λ ns. AllThere ns ms) joined r.there,
      );
      few = let few = r.few in omega arith;
    }

rest : (root : Name) (read : Name → Reading Module) → ReadsAsNamed read → (n : ℕ) (known waiting : List Name) →
    all_differ known ≡ true → RestOf n known waiting (load root read n known waiting)
rest root read named zero known [] d = none-left zero known d
rest root read named (suc n) known [] d = none-left (suc n) known d
rest root read named zero known (a ∷ waiting) d = tt
rest root read named (suc n) known (a ∷ waiting) d =
    by_read (λ m. rest root read named n (known ++ mentioned known (module_imports m))
    (waiting ++ mentioned known (module_imports m)) (mentioned-differ known (module_imports m) d))
    (read a) refl
  where
    by_rest : (m : Module) → module_name m ≡ a → (r : Result (List Module) Stop) →
        RestOf n (known ++ mentioned known (module_imports m)) (waiting ++ mentioned known (module_imports m)) r →
        RestOf (suc n) known (a ∷ waiting) (with_first m r)
    by_rest m is (Ok ms) r = one-more n known waiting a m ms is r
    by_rest m is (Err s) r = tt

    by_read : ((m : Module) → RestOf n (known ++ mentioned known (module_imports m))
        (waiting ++ mentioned known (module_imports m))
        (load root read n (known ++ mentioned known (module_imports m))
        (waiting ++ mentioned known (module_imports m)))) →
        (r : Reading Module) → read a ≡ r →
        RestOf (suc n) known (a ∷ waiting)
        (read_then a r (λ m. load root read n (known ++ mentioned known (module_imports m))
        (waiting ++ mentioned known (module_imports m))))
    by_read later (Ok m) e = by_rest m (named a m e) _ (later m)
    by_read later (Err w) e = tt

-- ---- the whole build
headers-named : (ms : List Module) → names (map header_of ms) ≡ map module_name ms
headers-named [] = refl
headers-named (m ∷ ms) = ap (λ ns. module_name m ∷ ns) (headers-named ms)

headers-there : (ns : List Name) (ms : List Module) → AllThere ns ms →
    list_all (λ (h : Header). all_there ns h.imports) (map header_of ms) ≡ true
headers-there ns [] t = refl
headers-there ns (m ∷ ms) t = and_from _ _ t.0 (headers-there ns ms t.1)

is-build : (read : Name → Reading Module) (root : Name) (ms : List Module) → ReadsAsNamed read →
    load root read 1000 (root ∷ []) (root ∷ []) ≡ Ok ms → Rest 1000 (root ∷ []) (root ∷ []) ms → IsBuild root ms
is-build read root ms as-named is r =
    let named : names (map header_of ms) ≡ root ∷ r.more = headers-named ms ∙ r.named in
    let differ : all_differ (map module_name ms) ≡ true =
    subst (λ ns. all_differ ns ≡ true) (sym r.named) r.once in
    record {
      first = (r.more, named);
      whole = subst
          (λ ns. (all_differ ns && list_all (λ (h : Header). all_there ns h.imports) (map header_of ms)) ≡ true)
          (sym named) (and_from _ _ r.once (headers-there (root ∷ r.more) ms r.there));
      reached = λ a i.
          all-reached read root 1000 ms as-named is differ a
          (subst (λ ns. is_among ns a ≡ true) (headers-named ms) i);
      few = r.few;
    }

pub builds : (read : Name → Reading Module) (root : Name) (ms : List Module) → ReadsAsNamed read →
    loaded read root ≡ Ok ms → IsBuild root ms
unfolding loaded
builds read root ms named is =
    is-build read root ms named is (subst (RestOf 1000 (root ∷ []) (root ∷ [])) is
    (rest root read named 1000 (root ∷ []) (root ∷ []) refl))
