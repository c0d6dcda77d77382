-- Imports and items, one after another.
use Rattle.std.proofs.Common.{◌≡◌, ◌∙◌, ℕ, ◌+◌, ◌-◌, ◌<◌, ◌≤◌, Bool, true, false, cond, List, [], ◌∷◌, ◌++◌, length, refl, sym, ap, arith}
use Rattle.qtt_phrase.specs.Reading.{Read, ◌>>=◌, begins, run_at}
use Rattle.qtt_phrase.specs.Reading.Read.{got, bad, over}
use Rattle.qtt_syntax.specs.Tree.Item.{family, signature, clause}
use Rattle.qtt_grammar.specs.declared.class.Pass.{Pass}
use Rattle.qtt_grammar.specs.declared.stop.Excess.{Excess}
use Rattle.qtt_grammar.specs.declared.stop.Stop.{Stop}
use Rattle.qtt_grammar.specs.declared.lexeme.Lexeme.{Lexeme}
use Rattle.qtt_grammar.specs.Classes.{is_next}
use Rattle.qtt_grammar.specs.Grammar.{of, Place, Entry, imported, listed, imports_of, items_of, same_name, start, next_place}
use Rattle.qtt_grammar.specs.Readers.{Reads, entry_at, entries_at}
use Rattle.qtt_grammar.specs.View.{Fails, within, with_front, Parts, parts_of, joined_body}
use Rattle.qtt_grammar.proofs.Loops.{goes_on, stops_by, ends_here, ends_out, ended_got, made_stops}

imports_more : (es ds : List Entry) → imports_of (es ++ ds) ≡ imports_of es ++ imports_of ds
imports_more [] ds = refl
imports_more (imported i ∷ es) ds = ap (λ is. i ∷ is) (imports_more es ds)
imports_more (listed i ∷ es) ds = imports_more es ds

items_more : (es ds : List Entry) → items_of (es ++ ds) ≡ items_of es ++ items_of ds
items_more [] ds = refl
items_more (imported i ∷ es) ds = items_more es ds
items_more (listed i ∷ es) ds = ap (λ is. i ∷ is) (items_more es ds)

pub parts_more : (es ds : List Entry) → parts_of (es ++ ds) ≡ joined_body (parts_of es) ds
parts_more es ds = rw (imports_more es ds, items_more es ds) refl

abbrev entries_run : (Place → Reads Entry) → ℕ → Place → Reads (List Entry)
entries_run p m at = run_at (λ _. true) (λ _. true) next_place (λ _. of is_next) p m at

-- entries with these parts were read, and from the rest at most so many are still to be read
pub record ReadSoFar (p : Place → Reads Entry) (parts : Parts) (at : Place) (m : ℕ) (ls : List Lexeme)
    (total : Read Lexeme Excess (List Entry)) : Type 0 where
  pub front : List Entry
  pub parts_are : parts_of front ≡ parts
  pub so_far : with_front front (entries_run p m at ls) ≡ total

module _ (p : Place → Reads Entry) (parts : Parts) (at : Place) (ls : List Lexeme)
    (total : Read Lexeme Excess (List Entry)) where
  ended_parts : (front : List Entry) → parts_of front ≡ parts → total ≡ got front ls →
      (total >>= λ es rest. got (parts_of es) rest) ≡ got parts ls
  ended_parts front e h = rw h (ap (λ (x : Parts). got x ls) e)

  pub entries_end : (m : ℕ) → begins (of is_next) ls ≡ false → ReadSoFar p parts at m ls total →
      (total >>= λ es rest. got (parts_of es) rest) ≡ got parts ls
  entries_end m b r = ended_parts r.front r.parts_are
      (ends_here (λ _. true) (λ _. true) next_place (λ _. of is_next) p r.front at ls total m b r.so_far ∙
      ended_got r.front ls)

  pub entries_out : (m : ℕ) → m ≡ 0 → ReadSoFar p parts at m ls total →
      (total >>= λ es rest. got (parts_of es) rest) ≡ got parts ls
  entries_out m e r = ended_parts r.front r.parts_are
      (ends_out (λ _. true) (λ _. true) next_place (λ _. of is_next) p r.front at ls total m e r.so_far ∙
      ended_got r.front ls)

  pub entries_stop : (e : Stop) (n i : ℕ) → i < n → begins (of is_next) ls ≡ true → Fails e (p at ls) →
      ReadSoFar p parts at (n - i) ls total → Fails e (total >>= λ es rest. got (parts_of es) rest)
  entries_stop e n i lt b h r =
      made_stops parts_of (λ _. total) [] e
      (stops_by (λ _. true) (λ _. true) next_place (λ _. of is_next) p r.front at ls total e n i lt b h r.so_far)

  pub entries_go : (n i : ℕ) (rest : List Lexeme) (a : Entry) → i < n → begins (of is_next) ls ≡ true →
      p at ls ≡ got a rest → ReadSoFar p parts at (n - i) ls total →
      ReadSoFar p (joined_body parts (a ∷ [])) (next_place at a) (n - (i + 1)) rest total
  entries_go n i rest a lt b h r = record {
    front = r.front ++ a ∷ [];
    parts_are = parts_more r.front (a ∷ []) ∙ ap (λ (x : Parts). joined_body x (a ∷ [])) r.parts_are;
    so_far = goes_on (λ _. true) (λ _. true) next_place (λ _. of is_next) p r.front at ls total n i rest a lt b h
        r.so_far;
  }

no_front : (r : Read Lexeme Excess (List Entry)) → with_front [] r ≡ r
no_front (got es ls) = refl
no_front (bad k ls) = refl
no_front (over f ls) = refl

-- nothing is read yet
pub entries_start : (pass : Pass) (n : ℕ) (parts : Parts) (at : Place) (ls : List Lexeme) → parts ≡ ([], []) →
    at ≡ start → ReadSoFar (within entry_at pass n) parts at (length ls - 0) ls
    (within entries_at pass n start ls)
unfolding entries_at
entries_start pass n parts at ls e f =
    record {
      front = [];
      parts_are = sym e;
      so_far = (let z : length ls - 0 ≡ length ls = omega arith in
          rw (f, z) (no_front (entries_run (within entry_at pass n) (length ls) start ls)));
    }

cond_small : (b : Bool) (n : ℕ) → cond b n 0 ≤ n
cond_small true n = omega arith
cond_small false n = omega arith

-- at most one clause more
pub clauses_step : (at : Place) (e : Entry) → (next_place at e).clauses ≤ at.clauses + 1
clauses_step at (imported i) = omega arith
clauses_step at (listed (family n ns ps t cs s)) = omega arith
clauses_step at (listed (signature p m n ns t s)) = omega arith
clauses_step at (listed (clause n ps side s)) = let h =
    cond_small (same_name at.clauses_of n) at.clauses in omega (arith, h)
