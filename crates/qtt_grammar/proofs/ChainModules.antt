-- The chains of items and modules as phrases are the grammar, with the index or field that is one too many in the
-- tree.
use Rattle.std.proofs.Common.{◌≡◌, ℕ, suc, Bool, true, false, List, [], ◌∷◌, ◌++◌, Option, None, refl, sym, ap, subst, ◌∙◌, append_assoc, inl, inr}
use Rattle.std.proofs.lemmas.List.{append-nil}
use Rattle.qtt_base.specs.declared.place.Span.{Span}
use Rattle.qtt_base.specs.declared.limits.Quantity.TheVariants as quantity
use Rattle.qtt_syntax.specs.declared.expr.Local.{Local}
use Rattle.qtt_syntax.specs.Tree.{Tree, Con, Item}
use Rattle.qtt_syntax.specs.Tree.Con.{con}
use Rattle.qtt_syntax.specs.Tree.Item.{family, signature, clause}
use Rattle.qtt_phrase.specs.Phrase.{Token, ◌then◌, Making, Run, opens, first}
use Rattle.qtt_phrase.proofs.Chained.{Exact, Sample, nothing, first-none}
use Rattle.qtt_phrase.proofs.Forms.{alike_exact}
use Rattle.qtt_grammar.specs.declared.class.Class.{Class}
use Rattle.qtt_grammar.specs.declared.class.Class.TheVariants as class
use Rattle.qtt_grammar.specs.declared.class.Pass.TheVariants.{Free}
use Rattle.qtt_grammar.specs.declared.lexeme.Lexeme.{Lexeme}
use Rattle.qtt_grammar.specs.declared.stop.Excess.{Excess}
use Rattle.qtt_grammar.specs.Classes.{is_open, is_next, is_close, is_module, is_import, is_data, is_where, is_colon, is_name, is_big}
use Rattle.qtt_grammar.specs.Grammar.{Says, of, place, Symbol, Up_to, Level, Place, start, Entry, imported, listed, next_place, next_con_of, family_of, import_of, items_of, module_of, second, IsCon, Cons, IsFamily, Partial, Erased, Defining, IsItem, IsImport, IsEntry, IsModule, IsText, levels}
use Rattle.qtt_grammar.specs.Chain.{chain_excess, fields_excess, item_excess, items_excess, module_excess, IsChained}
use Rattle.qtt_grammar.specs.ChainReaders.{Pending, ends_con, ignored, text_chain_at}
use Rattle.qtt_grammar.proofs.Sets.{At}
use Rattle.qtt_grammar.proofs.Faultless.{FaultlessLevel, both_none, symbol, locally, tok, seq, params, partial_item, erased_item, defining, all_levels}
use Rattle.qtt_grammar.proofs.Chains.{Chains, Settled, ConChain, ConRun, ConsChain, FamilyChain, ItemChain, ImportAt, EntryChain, EntryRun, ModuleChain, TextChain, chains}
use Rattle.qtt_grammar.proofs.ChainTrees.{Alike, Trees, Chained, alike_then, alike_before, alike_left, alike_right, alike_or, alike_alone, none_from, chains_trees}
use Rattle.qtt_grammar.proofs.ChainItems.{text_chain_exact, text_chain_some}

-- a type, the token behind it, and what stands behind that
module _ {A B C : Type 0} {R : A → Option Excess → B → Type 0} (is : Lexeme → Bool)
    (value : Lexeme → C) {P : Says Pending} {G : Says Tree} {W : Says A} {H : Says B}
    (type : Alike (Chained 0 (λ t. t)) P G) (behind : Alike R W H) where
  abbrev Typed_then : C × A → Option Excess → Tree × (C × B) → Type 0
  Typed_then c o e = (q : Option Excess) × (o ≡ first (chain_excess 0 e.0) q) × R c.1 q e.1.1

  settled_to : (us : List Lexeme) (c : C × A) (o : Option Excess) → (Settled is value P then W) us c o →
      (e : Tree × (C × B)) × (G then Token is value then H) us e None × Typed_then c o e
  settled_to us c o (ws, vs, j, k, parts, ((d, v), (as', bs, i, l, parts2, p, (x, one, op, w, g), f1), made), m, f) =
      let t = type.to as' d i p in
      let b = behind.to vs c.1 k m in
      let way : us ≡ as' ++ x ∷ vs =
      parts ∙ ap (λ (z : List Lexeme). z ++ vs) (parts2 ∙ ap (λ (z : List Lexeme). as' ++ z) one) ∙
      append_assoc as' (x ∷ []) vs in
      let whole : chain_excess 0 t.0 ≡ j = t.2 ∙ ap (λ (z : Option Excess). first i z) g ∙ f1 in (
        (t.0, (value x, b.0)),
        (
          as',
          x ∷ vs,
          None,
          None,
          way,
          t.1,
          (x ∷ [], vs, None, None, refl, (x, refl, op, refl, refl), b.1, refl),
          refl,
        ),
        (k, sym f ∙ ap (λ (z : Option Excess). first z k) (sym whole), b.2),
      )

  settled_back : (us : List Lexeme) (e : Tree × (C × B)) → (G then Token is value then H) us e None →
      (c : C × A) × (o : Option Excess) × (Settled is value P then W) us c o × Typed_then c o e
  settled_back us e (ws, vs, j, k, parts, g, (as', bs, i, l, parts2, (x, one, op, w, n), h, f1), f) =
      let faults = both_none j k f in
      let later = both_none i l (f1 ∙ faults.1) in
      let t = type.back ws e.0 (subst (λ (z : Option Excess). G ws e.0 z) faults.0 g) in
      let b = behind.back bs e.1.1 (subst (λ (z : Option Excess). H bs e.1.1 z) later.1 h) in
      let way : us ≡ (ws ++ x ∷ []) ++ bs =
      parts ∙ ap (λ (z : List Lexeme). ws ++ z) (parts2 ∙ ap (λ (z : List Lexeme). z ++ bs) one) ∙
      sym (append_assoc ws (x ∷ []) bs) in (
        (value x, b.0),
        first (first t.1 t.0) b.1,
        (
          ws ++ x ∷ [],
          bs,
          first t.1 t.0,
          b.1,
          way,
          ((t.0, value x), (ws, x ∷ [], t.1, t.0, refl, t.2, (x, refl, op, refl, refl), refl), refl),
          b.2,
          refl,
        ),
        (b.1, ap (λ (z : Option Excess). first z b.1) (sym t.3), b.3),
      )

  settled : Alike Typed_then (Settled is value P then W) (G then Token is value then H)
  settled = record { to = settled_to; back = settled_back }

-- ---- constructors

module _ (T L : Level) (C : Chains) (top : FaultlessLevel T) (inner : FaultlessLevel L) (trees : Trees C T) where
  -- a constructor, and the token behind it
  con_to : (us : List Lexeme) (b : Bool) (o : Option Excess) → ConChain T L C us b o →
      (w : List Lexeme) × (y : Lexeme) × (n : Local) × (t : Tree) × IsCon Free T L w (con n.name t n.span) None ×
      (us ≡ w ++ y ∷ []) × (of ends_con y ≡ true) × (of is_close y ≡ b) × (chain_excess 0 t ≡ o)
  con_to us b o (
    (n, b1),
    (
      u1,
      u2,
      j1,
      k1,
      e1,
      (x, ex, opx, vx, ox),
      (
        (s, b2),
        (
          u3,
          u4,
          j2,
          k2,
          e2,
          (c, ec, opc, vc, oc),
          ((d, b3), (u5, u6, j3, k3, e3, p, (y, ey, opy, vy, oy), f3), made3),
          f2,
        ),
        made2,
      ),
      f1,
    ),
    made1,
  ) =
      let t = (trees.typing 0).to u5 d j3 p in (
        x ∷ c ∷ u5,
        y,
        n,
        t.0,
        (
          (n, (s, t.0)),
          (
            x ∷ [],
            c ∷ u5,
            None,
            None,
            refl,
            (x, refl, opx, vx, refl),
            (c ∷ [], u5, None, None, refl, (c, refl, opc, vc, refl), t.1, refl),
            refl,
          ),
          refl,
        ),
        e1 ∙ ap (λ (z : List Lexeme). z ++ u2) ex ∙ ap (λ (z : List Lexeme). x ∷ z)
            (e2 ∙ ap (λ (z : List Lexeme). z ++ u4) ec ∙ ap (λ (z : List Lexeme). c ∷ z)
            (e3 ∙ ap (λ (z : List Lexeme). u5 ++ z) ey)),
        opy,
        vy ∙ made3 ∙ made2 ∙ made1,
        t.2 ∙ ap (λ (z : Option Excess). first j3 z) oy ∙ f3 ∙ none_from j2 k2 k1 (sym oc) f2 ∙ none_from j1 k1 o
            (sym ox) f1,
      )

  con_back : (w : List Lexeme) (c : Con) (y : Lexeme) → IsCon Free T L w c None → of ends_con y ≡ true →
      (o : Option Excess) × ConChain T L C (w ++ y ∷ []) (of is_close y) o ×
      (fields_excess (c ∷ []) ≡ first o None)
  con_back w c y (
    (n, (s, t)),
    (u1, u2, j1, k1, e1, (x, ex, opx, vx, ox), (u3, u4, j2, k2, e2, (z, ez, opz, vz, oz), g, f2), f1),
    made,
  ) h =
      let faults = both_none j1 k1 f1 in
      let later = both_none j2 k2 (f2 ∙ faults.1) in
      let a = (trees.typing 0).back u4 t (subst (λ (q : Option Excess). T.typing u4 t q) later.1 g) in
      let o = first a.1 a.0 in (
        o,
        (
          (n, of is_close y),
          (
            x ∷ [],
            z ∷ (u4 ++ y ∷ []),
            None,
            o,
            ap (λ (q : List Lexeme). q ++ y ∷ [])
                (e1 ∙ ap (λ (q : List Lexeme). q ++ u2) ex ∙ ap (λ (q : List Lexeme). x ∷ q)
                (e2 ∙ ap (λ (q : List Lexeme). q ++ u4) ez)),
            (x, refl, opx, vx, refl),
            (
              (s, of is_close y),
              (
                z ∷ [],
                u4 ++ y ∷ [],
                None,
                o,
                refl,
                (z, refl, opz, vz, refl),
                ((a.0, of is_close y), (u4, y ∷ [], a.1, a.0, refl, a.2, (y, refl, h, refl, refl), refl), refl),
                refl,
              ),
              refl,
            ),
            refl,
          ),
          refl,
        ),
        ap (λ (q : Con). fields_excess (q ∷ [])) (sym made) ∙ ap (λ (q : Option Excess). first q None) a.3,
      )

  -- the first constructor's type comes first
  fields_first : (c : Con) (more : List Con) (o : Option Excess) → fields_excess (c ∷ []) ≡ first o None →
      fields_excess (c ∷ more) ≡ first o (fields_excess more)
  fields_first (con n t s) more o e =
      ap (λ (z : Option Excess). first z (fields_excess more))
      (sym (first-none (chain_excess 0 t)) ∙ e ∙ first-none o)

  abbrev NextCon : ℕ → Says Con
  NextCon n = Making next_con_of (Symbol is_next then Up_to Free quantity.Constructors n (IsCon Free T L))

  abbrev Later : ℕ → Says (List Con)
  Later = Run (λ _. true) (λ _. true) (λ n _. suc n) NextCon

  -- constructors, with a Next between them and a Close behind them
  record Listed (n : ℕ) (us : List Lexeme) (o : Option Excess) : Type 0 where
    front : List Lexeme
    middle : List Lexeme
    close : List Lexeme
    head : Con
    more : List Con
    at : Span
    parts : us ≡ front ++ (middle ++ close)
    one : IsCon Free T L front head None
    later : Later n middle more None
    ends : Symbol is_close close at None
    fields : fields_excess (head ∷ more) ≡ o

  next_of : (c : Class) → ends_con c ≡ true → is_close c ≡ false → is_next c ≡ true
  next_of class.Next e f = refl
  next_of class.Close e f = absurd cc
  next_of _ e f = absurd cc

  run_after : (us : List Lexeme) (bs : List Bool) (o : Option Excess) → ConRun T L C true us bs o →
      (us ≡ []) × (None ≡ o)
  run_after us [] o m = (m.0, m.2)
  run_after us (b ∷ more) o (vs, ws, i, j, e, go, m, ms, f) = absurd cc

  run_to : (n : ℕ) (us : List Lexeme) (bs : List Bool) (o : Option Excess) → ConRun T L C false us bs o → Listed n us o
  run_to n us [] o (e, f, g) = absurd cc
  run_to n us (true ∷ more) o (vs, ws, i, j, e, go, m, ms, f) =
      let c = con_to vs true i m in
      let r = run_after ws more j ms in
      record {
        front = c.0;
        middle = [];
        close = c.1 ∷ [];
        head = con c.2.name c.3 c.2.span;
        more = [];
        at = place c.1;
        parts = e ∙ ap (λ (z : List Lexeme). vs ++ z) r.0 ∙ append-nil vs ∙ c.5;
        one = c.4;
        later = (refl, refl, refl);
        ends = (c.1, refl, c.7, refl, refl);
        fields = ap (λ (z : Option Excess). first z None) c.8 ∙ ap (λ (z : Option Excess). first i z) r.1 ∙ f;
      }
  run_to n us (false ∷ more) o (vs, ws, i, j, e, go, m, ms, f) =
      let c = con_to vs false i m in
      let r = run_to (suc n) ws more j ms in
      let y = c.1 in
      record {
        front = c.0;
        middle = (y ∷ r.front) ++ r.middle;
        close = r.close;
        head = con c.2.name c.3 c.2.span;
        more = r.head ∷ r.more;
        at = r.at;
        parts = e ∙ ap (λ (z : List Lexeme). z ++ ws) c.5 ∙ append_assoc c.0 (y ∷ []) ws ∙
            ap (λ (z : List Lexeme). c.0 ++ y ∷ z) r.parts ∙ ap (λ (z : List Lexeme). c.0 ++ z)
            (sym (append_assoc (y ∷ r.front) r.middle r.close));
        one = c.4;
        later = (
          y ∷ r.front,
          r.middle,
          None,
          None,
          refl,
          refl,
          (
            (place y, r.head),
            (
              y ∷ [],
              r.front,
              None,
              None,
              refl,
              (y, refl, next_of y.class c.6 c.7, refl, refl),
              r.one,
              refl,
            ),
            refl,
          ),
          r.later,
          refl,
        );
        ends = r.ends;
        fields = ap (λ (z : Option Excess). first z (fields_excess (r.head ∷ r.more))) c.8 ∙
            ap (λ (z : Option Excess). first i z) r.fields ∙ f;
      }

  close_ends : (c : Class) → is_close c ≡ true → ends_con c ≡ true
  close_ends class.Close e = refl
  close_ends _ e = absurd cc

  next_ends : (c : Class) → is_next c ≡ true → (ends_con c ≡ true) × (is_close c ≡ false)
  next_ends class.Next e = (refl, refl)
  next_ends _ e = absurd cc

  run_back : (n : ℕ) (a r v : List Lexeme) (c : Con) (more : List Con) (s : Span) → IsCon Free T L a c None →
      Later n r more None → Symbol is_close v s None →
      (bs : List Bool) × (o : Option Excess) × ConRun T L C false (a ++ (r ++ v)) bs o ×
      (fields_excess (c ∷ more) ≡ o)
  run_back n a r v c [] s one (nil, f, g) (y, ev, op, at, none) =
      let k = con_back a c y one (close_ends y.class op) in (
        true ∷ [],
        first k.0 None,
        (
          a ++ y ∷ [],
          [],
          k.0,
          None,
          ap (λ (z : List Lexeme). a ++ z) (ap (λ (z : List Lexeme). z ++ v) nil ∙ ev) ∙
              sym (append-nil (a ++ y ∷ [])),
          refl,
          subst (λ (z : Bool). ConChain T L C (a ++ y ∷ []) z k.0) op k.1,
          (refl, refl, refl),
          refl,
        ),
        k.2,
      )
  run_back n a r v c (d ∷ more) s one
      (us, ws, p, q, e, go, (pair, (as', bs, j, l, e1, (y, ey, opy, vy, oy), two, f2), made), ms, f) close =
      let faults = both_none p q f in
      let later = both_none j l (f2 ∙ faults.0) in
      let two_none = subst (λ (z : Con). IsCon Free T L bs z None) made
      (subst (λ (z : Option Excess). IsCon Free T L bs pair.1 z) later.1 two) in
      let rest = run_back (suc n) bs ws v d more s two_none
      (subst (λ (z : Option Excess). Later (suc n) ws more z) faults.1 ms) close in
      let ends = next_ends y.class opy in
      let k = con_back a c y one ends.0 in
      let middle : r ≡ (y ∷ bs) ++ ws =
      e ∙ ap (λ (z : List Lexeme). z ++ ws) (e1 ∙ ap (λ (z : List Lexeme). z ++ bs) ey) in
      let way : a ++ (r ++ v) ≡ (a ++ y ∷ []) ++ (bs ++ (ws ++ v)) =
      ap (λ (z : List Lexeme). a ++ z) (ap (λ (z : List Lexeme). z ++ v) middle ∙ append_assoc (y ∷ bs) ws v)
      ∙ sym (append_assoc a (y ∷ []) (bs ++ (ws ++ v))) in (
        false ∷ rest.0,
        first k.0 rest.1,
        (
          a ++ y ∷ [],
          bs ++ (ws ++ v),
          k.0,
          rest.1,
          way,
          refl,
          subst (λ (z : Bool). ConChain T L C (a ++ y ∷ []) z k.0) ends.1 k.1,
          rest.2,
          refl,
        ),
        fields_first c (d ∷ more) k.0 k.2 ∙ ap (λ (z : Option Excess). first k.0 z) rest.3,
      )

  abbrev Fields : Unit {0} → Option Excess → List Con × Span → Type 0
  Fields _ o e = fields_excess e.0 ≡ o

  cons_to : (us : List Lexeme) (a : Unit {0}) (o : Option Excess) → ConsChain T L C us a o →
      (e : List Con × Span) × (Cons Free T L then Symbol is_close) us e None × Fields a o e
  cons_to us a o (inl (s, (y, ey, op, v, nil), made)) =
      (([], s), ([], us, None, None, refl, inl (refl, refl, refl), (y, ey, op, v, refl), refl), nil)
  cons_to us a o (inr (bs, m, made)) =
      let r = run_to 1 us bs o m in (
        (r.head ∷ r.more, r.at),
        (
          r.front ++ r.middle,
          r.close,
          None,
          None,
          r.parts ∙ sym (append_assoc r.front r.middle r.close),
          inr ((r.head, r.more), (r.front, r.middle, None, None, refl, r.one, r.later, refl), refl),
          r.ends,
          refl,
        ),
        r.fields,
      )

  cons_back : (us : List Lexeme) (e : List Con × Span) → (Cons Free T L then Symbol is_close) us e None →
      (a : Unit {0}) × (o : Option Excess) × ConsChain T L C us a o × Fields a o e
  cons_back us e (ws, vs, j, k, parts, inl (nil, none, g), (y, ey, op, v, h), f) = (
    tt,
    None,
    inl (e.1, (y, parts ∙ ap (λ (z : List Lexeme). z ++ vs) nil ∙ ey, op, v, refl), refl),
    ap fields_excess (sym none),
  )
  cons_back us e (ws, vs, j, k, parts, inr ((c, more), (as', bs, i, l, e1, one, later, f1), made), close, f) =
      let faults = both_none j k f in
      let both = both_none i l (f1 ∙ faults.0) in
      let r = run_back 1 as' bs vs c more e.1 (subst (λ (z : Option Excess). IsCon Free T L as' c z) both.0 one)
      (subst (λ (z : Option Excess). Later 1 bs more z) both.1 later)
      (subst (λ (z : Option Excess). Symbol is_close vs e.1 z) faults.1 close) in
      let way : as' ++ (bs ++ vs) ≡ us =
      sym (parts ∙ ap (λ (z : List Lexeme). z ++ vs) e1 ∙ append_assoc as' bs vs) in (
        tt,
        r.1,
        inr (r.0, subst (λ (z : List Lexeme). ConRun T L C false z r.0 r.1) way r.2, refl),
        ap fields_excess (sym made) ∙ r.3,
      )

  cons_chain : Alike Fields (ConsChain T L C) (Cons Free T L then Symbol is_close)
  cons_chain = record { to = cons_to; back = cons_back }

  -- ---- items

  abbrev Exceeding : Unit {0} → Option Excess → Item → Type 0
  Exceeding _ o i = item_excess i ≡ o

  family_chain : Alike Exceeding (FamilyChain T L C) (IsFamily Free T L)
  family_chain =
      let typed = settled (of is_where) place (trees.expr 0) (alike_then (symbol is_open) cons_chain) in
      let all = alike_then (symbol is_data)
      (alike_then (locally is_big) (alike_then (params T L top inner) (alike_then (symbol is_colon) typed)))
      in
      alike_right family_of (λ a o b r. r)
      (alike_left ignored (λ a o b r. let t = r.1.1.1.1 in
      ap (λ (z : Option Excess). first (chain_excess 0 b.1.1.1.1.0) z) t.2.1 ∙ sym t.1) all)

  partial_none : (us : List Lexeme) (i : Item) → Partial Free T L us i None → item_excess i ≡ None
  partial_none us i ((s, (a, (m, (n, (c, t))))), h, made) = ap item_excess (sym made)

  erased_none : (us : List Lexeme) (i : Item) → Erased Free T L us i None → item_excess i ≡ None
  erased_none us i ((s, (n, (c, t))), h, made) = ap item_excess (sym made)

  defining_none : (us : List Lexeme) (i : Item) → Defining Free T L start us i None → item_excess i ≡ None
  defining_none us i ((n, side), (ws, vs, j, k, e, name, inl ((s, t), h, made), f), whole) =
      ap item_excess (sym whole ∙ sym made)
  defining_none us i ((n, side), (ws, vs, j, k, e, name, inr ((ps, (s, t)), h, made), f), whole) =
      ap item_excess (sym whole ∙ sym made)

  item_chain : (at : Place) → Alike Exceeding (ItemChain T L C) (IsItem Free T L at)
  item_chain at = alike_or family_chain
      (alike_or (alike_alone ignored (partial_item T L top inner) partial_none)
      (alike_or (alike_alone ignored (erased_item T L top inner) erased_none)
      (alike_alone ignored (defining T L top inner) defining_none)))

  -- ---- modules

  abbrev entry_excess : Entry → Option Excess
  entry_excess (imported i) = None
  entry_excess (listed i) = item_excess i

  entries_first : (e : Entry) (es : List Entry) →
      items_excess (items_of (e ∷ es)) ≡ first (entry_excess e) (items_excess (items_of es))
  entries_first (imported i) es = refl
  entries_first (listed i) es = refl

  -- whether imports may still stand behind an entry, and its excess
  abbrev Entered : Place → Bool → Option Excess → Entry → Type 0
  Entered at b o e = ((next_place at e).at_imports ≡ b) × (entry_excess e ≡ o)

  items_end_imports : (at : Place) (i : Item) → (next_place at (listed i)).at_imports ≡ false
  items_end_imports at (family n ns ps t cs s) = refl
  items_end_imports at (signature p m n ns t s) = refl
  items_end_imports at (clause n ps side s) = refl

  import_chain : (at : Place) → Alike (Entered at) (ImportAt T L C at.at_imports) (IsImport Free T L at)
  import_chain at =
      let named = seq (tok (opens at.at_imports (of is_import)) place) (locally is_name) in
      alike_right import_of (λ a o b r. r)
      (alike_alone {R = λ b o (v : Span × Local). (at.at_imports ≡ b) × (None ≡ o)} (λ _. at.at_imports) named
      (λ us v m. (refl, refl)))

  listed_chain : (at : Place) →
      Alike (Entered at) (Making (λ _. false) (ItemChain T L C)) (Making listed (IsItem Free T L at))
  listed_chain at = alike_left (λ _. false) (λ a o b r. r)
      (alike_right {S = λ a o e. Entered at false o e} listed (λ a o b r. (items_end_imports at b, r))
      (item_chain at))

  entry_chain : (at : Place) → Alike (Entered at) (EntryChain T L C at.at_imports) (IsEntry Free T L at)
  entry_chain at = alike_right second (λ a o b r. r)
      (alike_left {S = λ b o e. Entered at b o e.1} second (λ a o b r. r.1)
      (alike_then (symbol is_next) (alike_or (import_chain at) (listed_chain at))))

  abbrev Entries : Place → Says (List Entry)
  Entries = Run (λ _. true) (λ _. true) next_place (IsEntry Free T L)

  entries_to : (at : Place) (us : List Lexeme) (bs : List Bool) (o : Option Excess) →
      EntryRun T L C at.at_imports us bs o →
      (es : List Entry) × Entries at us es None × (items_excess (items_of es) ≡ o)
  entries_to at us [] o (e, f, g) = ([], (e, refl, refl), g)
  entries_to at us (b ∷ more) o (vs, ws, i, j, e, go, m, ms, f) =
      let t = (entry_chain at).to vs b i m in
      let r = entries_to (next_place at t.0) ws more j
      (subst (λ (z : Bool). EntryRun T L C z ws more j) (sym t.2.0) ms) in (
        t.0 ∷ r.0,
        (vs, ws, None, None, e, refl, t.1, r.1, refl),
        entries_first t.0 r.0 ∙
            ap (λ (z : Option Excess). first z (items_excess (items_of r.0))) t.2.1 ∙
            ap (λ (z : Option Excess). first i z) r.2 ∙ f,
      )

  entries_back : (at : Place) (us : List Lexeme) (es : List Entry) → Entries at us es None →
      (bs : List Bool) × (o : Option Excess) × EntryRun T L C at.at_imports us bs o ×
      (items_excess (items_of es) ≡ o)
  entries_back at us [] (e, f, g) = ([], None, (e, refl, refl), refl)
  entries_back at us (a ∷ es) (vs, ws, i, j, e, go, m, ms, f) =
      let faults = both_none i j f in
      let t = (entry_chain at).back vs a (subst (λ (z : Option Excess). IsEntry Free T L at vs a z) faults.0 m) in
      let r = entries_back (next_place at a) ws es
      (subst (λ (z : Option Excess). Entries (next_place at a) ws es z) faults.1 ms) in (
        t.0 ∷ r.0,
        first t.1 r.1,
        (vs, ws, t.1, r.1, e, refl, t.2, subst (λ (z : Bool). EntryRun T L C z ws r.0 r.1) t.3.0 r.2, refl),
        entries_first a es ∙ ap (λ (z : Option Excess). first z (items_excess (items_of es))) t.3.1 ∙
            ap (λ (z : Option Excess). first t.1 z) r.3,
      )

  entries_chain : Alike (λ (bs : List Bool) o (es : List Entry). items_excess (items_of es) ≡ o)
      (EntryRun T L C true) (Entries start)
  entries_chain = record { to = entries_to start; back = entries_back start }

  pub module_chain : Alike (λ (a : Unit {0}) o t. module_excess t ≡ o) (ModuleChain T L C) (IsModule Free T L)
  module_chain =
      let all = alike_then (symbol is_open)
      (alike_then (symbol is_module)
      (alike_then (locally is_name)
      (alike_before (symbol is_close)
      (alike_left {S = λ (a : Unit {0}) o (es : List Entry). items_excess (items_of es) ≡ o} ignored
      (λ a o b r. r) entries_chain)))) in
      alike_right module_of (λ a o b r. r)
      (alike_left {S = λ a o b. module_excess (module_of b) ≡ o} ignored (λ a o b r. r.1.1.1) all)

-- ---- a text

text_chain : Alike (λ (a : Unit {0}) o t. module_excess t ≡ o) TextChain (IsText Free)
unfolding TextChain IsText
text_chain = module_chain (levels Free 200) (levels Free 199) (chains 200) (all_levels 200) (all_levels 199)
    (chains_trees 200)

chained_to : (ts : List Lexeme) (a : Unit {0}) (o : Option Excess) → TextChain ts a o → IsChained ts a o
chained_to ts a o m = text_chain.to ts a o m

chained_back : (ts : List Lexeme) (a : Unit {0}) (o : Option Excess) → IsChained ts a o → TextChain ts a o
chained_back ts a o (t, m, e) = let b =
    text_chain.back ts t m in subst (λ (z : Option Excess). TextChain ts a z) (sym b.3 ∙ e) b.2

pub chained_exact : (p : Span) → Exact (At p) IsChained nothing text_chain_at
chained_exact p = alike_exact TextChain IsChained chained_to chained_back (text_chain_exact p)

pub chained_some : (p : Span) → Sample (At p) IsChained
chained_some p = let s = text_chain_some p in
    record {
      tokens = s.tokens;
      value = s.value;
      fault = s.fault;
      means = chained_to s.tokens s.value s.fault s.means;
      mild = s.mild;
    }
