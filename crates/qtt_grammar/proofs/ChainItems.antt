-- The readers of chains in items and in modules are exact.
use Rattle.std.proofs.Common.{◌≡◌, suc, Bool, true, false, not, ◌&&◌, List, [], ◌∷◌, ◌++◌, Option, Some, None, refl, sym, ap, subst, ◌∙◌, append_assoc, inl, inr, ◌⊎◌, codes}
use Rattle.std.proofs.lemmas.List.{append-nil}
use Rattle.qtt_base.specs.declared.place.Span.{Span}
use Rattle.qtt_base.specs.declared.limits.Quantity.TheVariants as quantity
use Rattle.qtt_phrase.specs.Phrase.{Weighed, Chain, Making, ◌or◌, opens}
use Rattle.qtt_phrase.specs.Reading.{Kind, Read, Reader, ◌>>=◌, begins, token_at, chain_at, then_at, making_at, all_at, counted_at}
use Rattle.qtt_phrase.specs.Reading.Read.{got, bad}
use Rattle.qtt_phrase.proofs.Exact.{Apart, opens_both, begins_token, begins_making, begins_chain, begins_apart}
use Rattle.qtt_phrase.proofs.Chained.{Mild, Begun, Stuck, Exact, Sample, nothing, first-none, then_goes, bind_bad, token_exact, making_exact, chain_exact}
use Rattle.qtt_phrase.proofs.Runs.{run_exact}
use Rattle.qtt_phrase.proofs.Forms.{Reads, either, tok, make, seq, then_exact, alt, starting, ending, counted, leads_begins, nothing_among, among_self, among_either, stops_nothing, sample_then, sample_run, sample_making}
use Rattle.qtt_grammar.specs.declared.class.Class.{Class}
use Rattle.qtt_grammar.specs.declared.class.Class.TheVariants as class
use Rattle.qtt_grammar.specs.declared.class.Pass.TheVariants.{Free}
use Rattle.qtt_grammar.specs.declared.lexeme.Lexeme.{Lexeme}
use Rattle.qtt_grammar.specs.declared.stop.Excess.{Excess}
use Rattle.qtt_grammar.specs.Lexeme.{sign, word}
use Rattle.qtt_grammar.specs.Classes.{is_open, is_next, is_close, is_module, is_import, is_data, is_where, is_partial, is_zero, is_left_paren, is_colon, is_name, is_simple, is_big, starts_pattern, starts_item}
use Rattle.qtt_grammar.specs.Grammar.{Says, of, place, local_of, Up_to, Level, erased_of, start, second, IsParam, levels}
use Rattle.qtt_grammar.specs.Readers.{LevelReader, local_at, levels_at}
use Rattle.qtt_grammar.specs.ChainReaders.{Pending, ChainReader, settled_at, ends_con, ignored, con_chain_at, cons_chain_at, family_chain_at, item_chain_at, entry_chain_at, module_chain_at, text_chain_at, chains_at}
use Rattle.qtt_grammar.proofs.Decide.{apart, among}
use Rattle.qtt_grammar.proofs.Sets.{goes, starts_expr, starts_typing, At}
use Rattle.qtt_grammar.proofs.Levels.{Inner, symbol, symbol_some, locally, locally_some}
use Rattle.qtt_grammar.proofs.Inners.{levels_inner}
use Rattle.qtt_grammar.proofs.Items.{params_exact, partial_reads, erased_reads, defining_reads, levels_whole}
use Rattle.qtt_grammar.proofs.Chains.{Chains, Settled, ConChain, ConRun, ConsChain, FamilyChain, ItemChain, ImportAt, EntryChain, EntryRun, ModuleChain, TextChain, chains}
use Rattle.qtt_grammar.proofs.ChainReads.{ChainInner, chains_inner}
use Rattle.qtt_grammar.proofs.ChainEnds.{Closes, ChainsEnd, chains_end}

-- ---- a chain and the token behind it

abbrev Anything : Excess → Type 0
Anything _ = Unit {0}

anything : (o : Option Excess) → Mild Anything o
anything None = tt
anything (Some f) = tt

-- exact, wherever the faults of completions are
anywhere : {A : Type 0} {fresh : Excess → Type 0} {P : Says A} {g : Lexeme → Bool} {r : Reader Lexeme Excess A} →
    Exact fresh P g r → Exact Anything P g r
anywhere ex = record {
  sound = ex.sound;
  complete = ex.complete;
  stuck = λ ls k rest e. let s =
      ex.stuck ls k rest e in
      record {
        front = s.front;
        parts = s.parts;
        stays = s.stays;
        goes = elim s.goes [
          | inl n ↦ inl n
          | inr go ↦
              inr (record {
                more = go.more;
                value = go.value;
                fault = go.fault;
                means = go.means;
                mild = anything go.fault;
              })
        ];
      };
  passed = ex.passed;
}

module _ {p : Span} {A : Type 0} (is : Class → Bool) (value : Lexeme → A) (follow : Class)
    (follows : is follow ≡ true) {P : Says Pending} {t : Lexeme → Bool} {r : Reader Lexeme Excess Pending}
    (reads : Reads (At p) P t (of goes) r) (closes : Closes P) (before : Apart (of goes) (of is)) where
  abbrev Both : Says (Pending × A)
  Both = Chain P (λ d. Weighed (λ _. d) (of is) value)

  abbrev token_behind : Pending → List Lexeme → Read Lexeme Excess (Pending × A)
  token_behind d ls = token_at (λ _. d) (of is) value ls >>= λ b s. got (d, b) s

  abbrev both_at : Reader Lexeme Excess (Pending × A)
  both_at = chain_at r (λ d. token_at (λ _. d) (of is) value)

  -- a chain goes on to one that leaves nothing open, and its end
  closed_more : (us : List Lexeme) (d : Pending) (o : Option Excess) → P us d o →
      (more : List Lexeme) × Both (us ++ more) (None, value (sign follow p)) o
  closed_more us d o m =
      let c = closes.goes_on us d o m in
      let x = sign follow p in (
        c.0 ++ x ∷ [],
        (
          us ++ c.0,
          x ∷ [],
          o,
          None,
          sym (append_assoc us c.0 (x ∷ [])),
          subst (λ (z : Pending). P (us ++ c.0) z o) c.3 c.2,
          (x, refl, follows, refl, refl),
          first-none o,
        ),
      )

  both_begun : (us : List Lexeme) (d : Pending) (o : Option Excess) → P us d o → Mild (At p) o → Begun (At p) Both us
  both_begun us d o m k = let c =
      closed_more us d o m in
      record { more = c.0; value = (None, value (sign follow p)); fault = o; means = c.1; mild = k }

  begun_before : (us more : List Lexeme) → Begun (At p) Both (us ++ more) → Begun (At p) Both us
  begun_before us more b = record {
    more = more ++ b.more;
    value = b.value;
    fault = b.fault;
    means = subst (λ (z : List Lexeme). Both z b.value b.fault) (append_assoc us more b.more) b.means;
    mild =
        b.mild;
  }

  token_begun : (us : List Lexeme) (d : Pending) → P us d None → (front : List Lexeme) →
      (front ≡ []) ⊎ Begun (At p) (Weighed (λ _. d) (of is) value) front → Begun (At p) Both (us ++ front)
  token_begun us d m front (inl none) =
      subst (λ (z : List Lexeme). Begun (At p) Both z)
      (sym (append-nil us) ∙ ap (λ (z : List Lexeme). us ++ z) (sym none)) (both_begun us d None m tt)
  token_begun us d m front (inr go) =
      record {
        more = go.more;
        value = (d, go.value);
        fault = go.fault;
        means = (us, front ++ go.more, None, go.fault, append_assoc us front go.more, m, go.means, refl);
        mild =
            go.mild;
      }

  both_stuck : (ls : List Lexeme) (k : Kind) (rest : List Lexeme) → both_at ls ≡ bad k rest →
      Stuck (At p) Both both_at ls k rest
  both_stuck ls k rest e =
      elim (bind_bad (r ls) token_behind k rest e) [
        | inl h ↦
            let s = reads.exact.stuck ls k rest h in
            record {
              front = s.front;
              parts = s.parts;
              stays = λ x q z j. ap (λ (y : Read Lexeme Excess Pending). y >>= token_behind) (s.stays x q z j);
              goes = elim s.goes [
                | inl none ↦ inl none
                | inr go ↦
                    inr (begun_before s.front go.more
                    (both_begun (s.front ++ go.more) go.value go.fault go.means go.mild))
              ];
            }
        | inr u ↦ elim (bind_bad (token_at (λ _. u.value) (of is) value u.rest)
            (λ b s. got (u.value, b) s) k rest u.second) [
              | inl h ↦
                  let x = reads.exact.sound ls u.value u.rest u.first in
                  let y = (token_exact (At p) (λ _. u.value) (of is) value).stuck u.rest k rest h in
                  record {
                    front = x.front ++ y.front;
                    parts = x.parts ∙ ap (λ (z : List Lexeme). x.front ++ z) y.parts ∙
                        sym (append_assoc x.front y.front rest);
                    stays = λ w q z j.
                        let one = then_goes P r ls u.value u.rest x y.front w q z
                        (y.parts ∙ ap (λ (m : List Lexeme). y.front ++ m) j) in
                        ap both_at (append_assoc x.front y.front (w ∷ z)) ∙
                        ap (λ (m : Read Lexeme Excess Pending). m >>= token_behind) one ∙
                        ap (λ (m : Read Lexeme Excess A). m >>= λ b s. got (u.value, b) s) (y.stays w q z j);
                    goes = inr (token_begun x.front u.value x.means y.front y.goes);
                  }
              | inr v ↦ let h = v.second in absurd cc
            ]
      ]

  both_reads : Reads (At p) Both t nothing both_at
  both_reads =
      let ex = chain_exact Anything P (of goes) r (λ d. Weighed (λ _. d) (of is) value) (λ _. nothing)
      (λ d. token_at (λ _. d) (of is) value) nothing (anywhere reads.exact)
      (λ d. token_exact Anything (λ _. d) (of is) value)
      (record {
        before = λ d vs rest b o m e. begins_apart (of goes) (of is) (vs ++ rest) before
            ((begins_token (λ _. d) (of is) value).at vs rest b o m);
        after =
            λ d vs rest b o m e. stops_nothing rest;
      })
      (λ us d o m. record {
        tokens = sign follow p ∷ [];
        value = value (sign follow p);
        fault = d;
        means = (sign follow p, refl, follows, refl, refl);
        mild = anything d;
      }) in
      record {
        exact = record { sound = ex.sound; complete = ex.complete; stuck = both_stuck; passed = ex.passed };
        begins = begins_chain P (λ d. Weighed (λ _. d) (of is) value) t reads.begins;
      }

  settled_reads : Reads (At p) (Settled (of is) value P) t nothing (settled_at (of is) value r)
  settled_reads = make second both_reads

  settled_some : Sample (At p) P →
      (us : List Lexeme) × (o : Option Excess) × Settled (of is) value P us (value (sign follow p)) o ×
      Mild (At p) o
  settled_some s = let c = closed_more s.tokens s.value s.fault s.means in
      (s.tokens ++ c.0, s.fault, ((None, value (sign follow p)), c.1, refl), s.mild)

-- ---- items

module _ {p : Span} (T L : Level) (Q R : LevelReader) (top : Inner p T Q) (inner : Inner p L R)
    (whole : (x : Lexeme) → of starts_pattern x ≡ true → Q.starts_pattern x ≡ true) (C : Chains) (K : ChainReader)
    (chain : ChainInner p C K) (closes : ChainsEnd C) where
  con_typing : Reads (At p) (Settled (of ends_con) (of is_close) (C.typing 0)) (of starts_typing) nothing
      (settled_at (of ends_con) (of is_close) (K.typing 0))
  con_typing = settled_reads ends_con (of is_close) class.Close refl (chain.typing 0) (closes.typing 0)
      (apart goes ends_con refl)

  -- a constructor that is the last one
  con_some : (us : List Lexeme) × (o : Option Excess) × ConChain T L C us true o × Mild (At p) o
  con_some =
      let s = settled_some ends_con (of is_close) class.Close refl (chain.typing 0) (closes.typing 0)
      (apart goes ends_con refl) (chain.typing_some 0) in
      let x = word class.Big p (codes "A") in
      let c = sign class.Colon p in (
        x ∷ c ∷ s.0,
        s.1,
        (
          (local_of x, true),
          (
            x ∷ [],
            c ∷ s.0,
            None,
            s.1,
            refl,
            (x, refl, refl, refl, refl),
            ((p, true), (c ∷ [], s.0, None, s.1, refl, (c, refl, refl, refl, refl), s.2, refl), refl),
            refl,
          ),
          refl,
        ),
        s.3,
      )

  con_typing_some : Sample (At p) (Settled (of ends_con) (of is_close) (C.typing 0))
  con_typing_some = let s =
      settled_some ends_con (of is_close) class.Close refl (chain.typing 0) (closes.typing 0)
      (apart goes ends_con refl) (chain.typing_some 0) in
      record { tokens = s.0; value = true; fault = s.1; means = s.2; mild = s.3 }

  con_reads : Reads (At p) (ConChain T L C) (of is_big) nothing (con_chain_at Q R K)
  unfolding con_chain_at
  con_reads =
      let behind = make second (seq (symbol is_colon) con_typing.exact con_typing_some) in
      make second (seq (locally is_big) behind.exact
      (sample_making second (sample_then (symbol_some is_colon class.Colon refl) con_typing_some)))

  and_false : (a b : Bool) → b ≡ false → a && b ≡ false
  and_false true b e = e
  and_false false b e = refl

  con_run_some : (s : Bool) → Sample (At p) (ConRun T L C s)
  con_run_some true = record { tokens = []; value = []; fault = None; means = (refl, refl, refl); mild = tt }
  con_run_some false = let c =
      con_some in record {
        tokens = c.0;
        value = true ∷ [];
        fault = c.1;
        means = (c.0, [], c.1, None, sym (append-nil c.0), refl, c.2, (refl, refl, refl), first-none c.1);
        mild =
            c.3;
      }

  con_run_exact : Exact (At p) (ConRun T L C false) (of is_big)
      (all_at (λ b. b) not (λ _ b. b) (λ _. of is_big) (λ _. con_chain_at Q R K) false)
  con_run_exact =
      run_exact (At p) (λ b. b) not (λ _ b. b) (λ _. ConChain T L C) (λ _. of is_big) nothing (of is_big)
      (λ _. con_chain_at Q R K) (λ _. con_reads.exact)
      (record {
        starts = λ s us rest a o m. con_reads.begins.at us rest a o m;
        apart = λ s ls go e. stops_nothing ls;
        last =
            λ s ls e. (and_false (not s) (begins (of is_big) ls) e, stops_nothing ls);
      })
      con_run_some false

  run_begins_at : (us rest : List Lexeme) (as' : List Bool) (o : Option Excess) → ConRun T L C false us as' o →
      begins (of is_big) (us ++ rest) ≡ true
  run_begins_at us rest [] o (e, f, g) = absurd cc
  run_begins_at us rest (a ∷ more) o (vs, ws, i, j, e, go, m, ms, f) =
      rw (e, append_assoc vs ws rest) (con_reads.begins.at vs (ws ++ rest) a i m)

  cons_reads : Reads (At p) (ConsChain T L C) (either (of is_close) (of is_big)) (of goes) (cons_chain_at Q R K)
  unfolding cons_chain_at
  cons_reads =
      let run : Reads (At p) (Making ignored (ConRun T L C false)) (of is_big) (of is_big)
      (making_at ignored (all_at (λ b. b) not (λ _ b. b) (λ _. of is_big) (λ _. con_chain_at Q R K) false)) =
      record {
        exact = making_exact ignored con_run_exact;
        begins = begins_making ignored (ConRun T L C false)
            (of is_big) (record { at = run_begins_at });
      } in
      ending (of goes) (among is_big goes refl)
      (alt (of is_big) (make ignored (symbol is_close)) run (apart is_close is_big refl)
      (nothing_among (of is_big)) (among_self (of is_big)))

  cons_some : Sample (At p) (ConsChain T L C)
  cons_some = let x = sign class.Close p in
      record {
        tokens = x ∷ [];
        value = tt;
        fault = None;
        means = inl (p, (x, refl, refl, refl, refl), refl);
        mild = tt;
      }

  family_typing : Reads (At p) (Settled (of is_where) place (C.expr 0)) (of starts_expr) nothing
      (settled_at (of is_where) place (K.expr 0))
  family_typing = settled_reads is_where place class.Where refl (chain.expr 0) (closes.expr 0)
      (apart goes is_where refl)

  family_reads : Reads (At p) (FamilyChain T L C) (of is_data) (of goes) (family_chain_at Q R K)
  unfolding family_chain_at
  family_reads =
      let block = seq (symbol is_open) cons_reads.exact cons_some in
      let block_some = sample_then (symbol_some is_open class.Open refl) cons_some in
      let s = settled_some is_where place class.Where refl (chain.expr 0) (closes.expr 0)
      (apart goes is_where refl) (chain.expr_some 0) in
      let typing_some : Sample (At p) (Settled (of is_where) place (C.expr 0)) =
      record { tokens = s.0; value = p; fault = s.1; means = s.2; mild = s.3 } in
      let type = seq family_typing block.exact block_some in
      let type_some = sample_then typing_some block_some in
      let colon = seq (symbol is_colon) type.exact type_some in
      let colon_some = sample_then (symbol_some is_colon class.Colon refl) type_some in
      let params = then_exact (params_exact Free T L Q R top inner whole 0) colon.exact colon_some
      (leads_begins colon.begins (apart is_left_paren is_colon refl)) in
      let params_some = sample_then
      (sample_run (λ n _. suc n) (λ n. Up_to Free quantity.Parts n (IsParam Free T L)) 0) colon_some in
      let named = seq (locally is_big) params params_some in
      make ignored (seq (symbol is_data) named.exact (sample_then (locally_some is_big class.Big refl) params_some))

  abbrev zero_or_name : Class → Bool
  zero_or_name class.Zero = true
  zero_or_name c = is_simple c

  abbrev partial_or_other : Class → Bool
  partial_or_other class.Partial = true
  partial_or_other c = zero_or_name c

  item_reads : Reads (At p) (ItemChain T L C) (of starts_item) (of goes) (item_chain_at Q R K)
  unfolding item_chain_at
  item_reads =
      let partial = make ignored (partial_reads Free T L Q R top inner whole) in
      let erased = make ignored (erased_reads Free T L Q R top inner whole) in
      let defining = make ignored (defining_reads Free T L Q R top inner whole start) in
      let third = starting (of zero_or_name)
      (among_either (of is_zero) (of is_simple) (of zero_or_name) (among is_zero zero_or_name refl)
      (among is_simple zero_or_name refl))
      (alt (of goes) erased defining (apart is_zero is_simple refl) (among_self (of goes))
      (among_self (of goes))) in
      let second = starting (of partial_or_other)
      (among_either (of is_partial) (of zero_or_name) (of partial_or_other)
      (among is_partial partial_or_other refl) (among zero_or_name partial_or_other refl))
      (alt (of goes) partial third (apart is_partial zero_or_name refl) (among_self (of goes))
      (among_self (of goes))) in
      starting (of starts_item)
      (among_either (of is_data) (of partial_or_other) (of starts_item) (among is_data starts_item refl)
      (among partial_or_other starts_item refl))
      (alt (of goes) family_reads second (apart is_data partial_or_other refl) (among_self (of goes))
      (among_self (of goes)))

  item_some : Sample (At p) (ItemChain T L C)
  item_some =
      let s = sample_making erased_of
      (sample_then (symbol_some is_zero class.Zero refl)
      (sample_then (locally_some is_simple class.Small refl)
      (sample_then (symbol_some is_colon class.Colon refl) top.typing_some))) in
      record {
        tokens = s.tokens;
        value = tt;
        fault = s.fault;
        means = inr (inr (inl (s.value, s.means, refl)));
        mild = s.mild;
      }

  -- ---- modules

  import_reads : (b : Bool) →
      Reads (At p) (ImportAt T L C b) (of is_import) nothing
      (making_at (λ _. b) (then_at (token_at (λ _. None) (opens b (of is_import)) place) (local_at is_name)))
  import_reads b = make (λ _. b)
      (seq (starting (of is_import) (λ x e. (opens_both b (of is_import x) e).1)
      (tok (opens b (of is_import)) place)) (locally is_name).exact (locally_some is_name class.Small refl))

  entry_reads : (b : Bool) → Reads (At p) (EntryChain T L C b) (of is_next) (of goes) (entry_chain_at Q R K b)
  unfolding entry_chain_at
  entry_reads b =
      let item = make (λ _. false) item_reads in
      let s = item_some in
      let some : Sample (At p) (ImportAt T L C b or Making (λ _. false) (ItemChain T L C)) =
      record {
        tokens = s.tokens;
        value = false;
        fault = s.fault;
        means = inr (s.value, s.means, refl);
        mild = s.mild;
      } in
      make second (seq (symbol is_next)
      (alt (of goes) (import_reads b) item (apart is_import starts_item refl) (nothing_among (of goes))
      (among_self (of goes))).exact some)

  abbrev next_or_goes : Class → Bool
  next_or_goes class.Next = true
  next_or_goes c = goes c

  entries_exact : Exact (At p) (EntryRun T L C true) (of next_or_goes)
      (counted_at (λ _ b. b) (of is_next) (entry_chain_at Q R K) true)
  entries_exact = counted (λ _ b. b) (EntryChain T L C) (of next_or_goes) entry_reads (apart goes is_next refl)
      (among is_next next_or_goes refl) (among goes next_or_goes refl) true

  pub module_chain_reads : Reads (At p) (ModuleChain T L C) (of is_open) nothing (module_chain_at Q R K)
  unfolding module_chain_at
  module_chain_reads =
      let close_some = symbol_some is_close class.Close refl in
      let entries = then_exact (making_exact ignored entries_exact) (symbol is_close).exact close_some
      (leads_begins (symbol {p = p} is_close).begins (apart next_or_goes is_close refl)) in
      let entries_some = sample_then (sample_making ignored (sample_run (λ _ b. b) (EntryChain T L C) true))
      close_some in
      let named = seq (locally is_name) entries entries_some in
      let named_some = sample_then (locally_some is_name class.Small refl) entries_some in
      let header = seq (symbol is_module) named.exact named_some in
      make ignored (seq (symbol is_open) header.exact
      (sample_then (symbol_some is_module class.Module refl) named_some))

  pub module_chain_some : Sample (At p) (ModuleChain T L C)
  module_chain_some = sample_making ignored
      (sample_then (symbol_some is_open class.Open refl)
      (sample_then (symbol_some is_module class.Module refl)
      (sample_then (locally_some is_name class.Small refl)
      (sample_then (sample_making ignored (sample_run (λ _ b. b) (EntryChain T L C) true))
      (symbol_some is_close class.Close refl)))))

pub text_chain_exact : (p : Span) → Exact (At p) TextChain nothing text_chain_at
unfolding TextChain text_chain_at
text_chain_exact p = (module_chain_reads (levels Free 200) (levels Free 199) (levels_at Free 200)
    (levels_at Free 199) (levels_inner p Free 200) (levels_inner p Free 199) (levels_whole Free 199) (chains 200)
    (chains_at 200) (chains_inner p 200) (chains_end 200)).exact

pub text_chain_some : (p : Span) → Sample (At p) TextChain
unfolding TextChain
text_chain_some p = module_chain_some (levels Free 200) (levels Free 199) (levels_at Free 200)
    (levels_at Free 199) (levels_inner p Free 200) (levels_inner p Free 199) (levels_whole Free 199) (chains 200)
    (chains_at 200) (chains_inner p 200) (chains_end 200)
