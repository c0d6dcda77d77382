use Rattle.std.proofs.Common.{◌≡◌, ◌<◌, ◌∷◌, [], ◌++◌, length, map, None, Some, Ok, Err, refl, sym, ap, ◌∙◌, subst, arith}
use Rattle.std.specs.Option.{option_copied}
use Rattle.std.specs.List.{slice_get}
use Rattle.std.proofs.lemmas.List.{length-map, map-append}
use Rattle.std.proofs.lemmas.Result.{err_from_is_err_and}
use Rattle.indexmap.specs.IndexSet.{insert_key}
use Rattle.qtt_syntax.specs.View.{module_of}
use Rattle.qtt_graph.specs.Graph.{Name, same_name}
use Rattle.qtt_load.specs.Loading.{mentioned}
use Rattle.qtt_load.specs.Answer.{Loads, IsRead}
use Rattle.qtt_load.proofs.Standing.{Standing, begins, ends, stops-full, read-stops, goes-on, is-whole}
use Rattle.qtt_load.proofs.loading.load.Goals as goal

pub modules-init : goal.modules-init
modules-init g c =
    let told = g.V.Vault.texts c.args.vault.now in
    let root = c.args.root.now in
    let known : c.insert.new.self.keys ≡ root ∷ [] =
    c.in_ok-insert.ensures.keys ∙ ap (λ ks. insert_key same_name ks c.in_ok-copy.field-0) c.new-known.ensures.empty ∙
    ap (λ (n : Name). n ∷ []) c.in_ok-copy.ensures in
    record {
      stands = subst (λ ks. Standing told root ks (map module_of c.new-texts.result.items)) (sym known)
          (subst (λ ts. Standing told root (root ∷ []) (map module_of ts)) (sym c.new-texts.ensures.items)
          (begins told root));
      same = refl;
      faults = omega arith;
      misses = omega arith;
    }

pub returns-then-len-eq-MAX_MODULES-clause-loads : goal.returns-then-len-eq-MAX_MODULES-clause-loads
returns-then-len-eq-MAX_MODULES-clause-loads g c =
    let told = g.V.Vault.texts c.args.vault.now in
    let root = c.args.root.now in
    let known = c.modules.known.keys in
    let texts = c.modules.texts in
    let ms = map module_of texts.items in
    let long = length-map texts.items module_of in
    let at : c.len.result ≡ length ms = omega (arith, c.len.ensures, texts.ok.0, long) in
    let full : length ms ≡ 1000 =
    omega (arith, c.len-in-Some.ensures, c.if-len-eq-MAX_MODULES.true, texts.ok.0, long) in
    let next : slice_get known (length ms) ≡ Some c.in-Some.name.now =
    ap (slice_get known) (sym at) ∙ sym c.in-Some.ensures.key in (
      subst (λ e. Loads told root (Err e)) (sym c.in_ok-too_many.ensures.kept)
          (stops-full told root known ms c.in-Some.name.now c.modules.invariant.stands next full),
      c.in_ok-too_many.ensures.numbered,
    )

pub returns-in_err-text-clause-loads : goal.returns-in_err-text-clause-loads
returns-in_err-text-clause-loads g c =
    let told = g.V.Vault.texts c.args.vault.now in
    let root = c.args.root.now in
    let known = c.modules.known.keys in
    let texts = c.modules.texts in
    let ms = map module_of texts.items in
    let stands = c.modules.invariant.stands in
    let name = c.in-Some.name.now in
    let error = c.in_err-text.field-0.0 in
    let long = length-map texts.items module_of in
    let at : c.len.result ≡ length ms = omega (arith, c.len.ensures, texts.ok.0, long) in
    let few : length ms < 1000 =
    omega (arith, c.len-in-Some.ensures, c.if-len-eq-MAX_MODULES.false, texts.ok.0, long, stands.room) in
    let next : slice_get known (length ms) ≡ Some name =
    ap (slice_get known) (sym at) ∙ sym c.in-Some.ensures.key in
    let read = subst (λ t. IsRead t name (Err error)) c.modules.invariant.same c.in_err-text.ensures.read in
    let p = err_from_is_err_and c.from_residual-in_err-text.result c.from_residual-in_err-text.ensures.1 in
    rw (p.1, p.2) (read-stops told root known ms name error stands few next read)

pub modules-preserved : goal.modules-preserved
modules-preserved g c =
    let told = g.V.Vault.texts c.args.vault.now in
    let root = c.args.root.now in
    let known = c.modules.known.keys in
    let texts = c.modules.texts in
    let ms = map module_of texts.items in
    let stands = c.modules.invariant.stands in
    let name = c.in-Some.name.now in
    let text = c.in_ok-text.text in
    let long = length-map texts.items module_of in
    let at : c.len.result ≡ length ms = omega (arith, c.len.ensures, texts.ok.0, long) in
    let few : length ms < 1000 =
    omega (arith, c.len-in-Some.ensures, c.if-len-eq-MAX_MODULES.false, texts.ok.0, long, stands.room) in
    let next : slice_get known (length ms) ≡ Some name =
    ap (slice_get known) (sym at) ∙ sym c.in-Some.ensures.key in
    let read = subst (λ t. IsRead t name (Ok text)) c.modules.invariant.same c.in_ok-text.ensures.read in
    let noted : c.note_all.new.known.keys ≡ known ++ mentioned known text.imports.items =
    c.in_ok-note_all.ensures ∙ ap (λ is. known ++ mentioned known is) c.deref.ensures.value in
    let trees : map module_of c.push.new.self.items ≡ ms ++ module_of text ∷ [] =
    ap (map module_of) c.in_ok-push.ensures.items ∙ map-append module_of texts.items (text ∷ []) in
    record {
      stands = subst (λ ks. Standing told root ks (map module_of c.push.new.self.items)) (sym noted)
          (subst (Standing told root (known ++ mentioned known text.imports.items)) (sym trees)
          (goes-on told root known ms name (module_of text) stands few next read));
      same = c.in_ok-text.ensures.same ∙ c.modules.invariant.same;
      faults = omega (arith, c.in_ok-text.ensures.failed.later, c.modules.invariant.faults);
      misses = omega (arith, c.in_ok-text.ensures.absent.later, c.modules.invariant.misses);
    }

pub invariant_of-result : goal.invariant_of-result
invariant_of-result g c =
    let told = g.V.Vault.texts c.args.vault.now in
    let root = c.args.root.now in
    let known = c.modules.known.keys in
    let texts = c.modules.texts in
    let ms = map module_of texts.items in
    let at : c.len.result ≡ length ms =
    omega (arith, c.len.ensures, texts.ok.0, length-map texts.items module_of) in
    let none : slice_get known (length ms) ≡ None =
    ap (slice_get known) (sym at) ∙ sym c.get_index.ensures.key ∙ ap option_copied c.in_default.is in
    record { whole = is-whole told root texts.items (ends told root known ms c.modules.invariant.stands none) }

pub returns-clause-loads : goal.returns-clause-loads
returns-clause-loads g c =
    let told = g.V.Vault.texts c.args.vault.now in
    let root = c.args.root.now in
    let known = c.modules.known.keys in
    let texts = c.modules.texts in
    let ms = map module_of texts.items in
    let at : c.len.result ≡ length ms =
    omega (arith, c.len.ensures, texts.ok.0, length-map texts.items module_of) in
    let none : slice_get known (length ms) ≡ None =
    ap (slice_get known) (sym at) ∙ sym c.get_index.ensures.key ∙ ap option_copied c.in_default.is in
    ends told root known ms c.modules.invariant.stands none
