use Rattle.std.proofs.Common.{arith, ◌≡◌, ◌∙◌, sym, ap, subst, not, cond, length, Some, true, false}
use Rattle.std.specs.Prelude.{is_some}
use Rattle.std.specs.Str.{bytes_eq}
use Rattle.std.specs.Ordering.{nat_cmp}
use Rattle.std.specs.Cmp.Lexicographic.{slice_cmp}
use Rattle.std.specs.BTreeMap.{get_by}
use Rattle.std.proofs.lemmas.Map.Text.{btree_map_updates_str}
use Rattle.qtt_implicit.specs.OwnItems.{place_named}
use Rattle.qtt_implicit.specs.declared.filling.own_items.OwnItem.{OwnItem}
use Rattle.qtt_implicit.proofs.OwnNames.{there-stays, new-next, some-copied, what-is_ok}
use Rattle.qtt_implicit.proofs.filling.own_items.OwnItems.push.Goals as goal

pub invariant_of-self-else-is_err : goal.invariant_of-self-else-is_err
invariant_of-self-else-is_err c =
    let self = c.args.self.now in
    let o : OwnItem = record { name = c.args.name; sig = c.args.sig } in
    let got = c.get.ensures.value ∙ self.found c.as_str-text.result.now in
    let placed = sym (some-copied c.get.result ∙ ap is_some got) ∙
    c.is_none.ensures ∙ ap not c.if-is_none.true in
    let absent = subst (λ n. is_some (place_named self.items.items n) ≡ false) c.as_str-text.ensures.value placed in
    let updates =
    what-is_ok c.insert.result _ (sym c.is_err.ensures.value ∙ c.if-is_err.false) c.insert.ensures.updates in
    let long = c.len-place.ensures in
    let ok = self.items.ok in
    record {
      found = λ q.
          new-next self.items.items o q _ absent
          (btree_map_updates_str c.as_str-text.result.now self.first c.insert.new.self _ updates q ∙
          ap (λ n. cond (bytes_eq n q) (Some c.len-place.result)
          (get_by (λ k. slice_cmp nat_cmp q k.now) self.first)) c.as_str-text.ensures.value ∙
          ap (λ l. cond (bytes_eq c.args.name.now q) (Some l)
          (get_by (λ k. slice_cmp nat_cmp q k.now) self.first)) (omega (arith, long, ok.0)) ∙
          ap (cond (bytes_eq c.args.name.now q) (Some (length self.items.items))) (self.found q)) ∙
          ap (λ its. place_named its q) (sym c.in_ok-push.ensures.items);
    }

pub invariant_of-self-else-is_none : goal.invariant_of-self-else-is_none
invariant_of-self-else-is_none c =
    let self = c.args.self.now in
    let o : OwnItem = record { name = c.args.name; sig = c.args.sig } in
    let got = c.get.ensures.value ∙ self.found c.as_str-text.result.now in
    let placed = sym (some-copied c.get.result ∙ ap is_some got) ∙
    c.is_none.ensures ∙ ap not c.if-is_none.false in
    let there = subst (λ n. is_some (place_named self.items.items n) ≡ true) c.as_str-text.ensures.value placed in
    record {
      found = λ q.
          self.found q ∙ there-stays self.items.items o q there ∙
          ap (λ its. place_named its q) (sym c.in_ok-push.ensures.items);
    }
