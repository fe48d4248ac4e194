use Rattle.std.proofs.Common.{refl, ap, sym, ◌∙◌}
use Rattle.lk_store.specs.Contents.{tree_at}
use Rattle.lk_store.proofs.Extending.{Extends-trans}
use Rattle.lk_store.proofs.Made.{Extends-self}
use Rattle.lk_lit.proofs.CharLists.{all_prepended, all_prepended-nil, all_prepended-push}
use Rattle.lk_lit.proofs.characters.list_of.Goals as goal

pub characters-init : goal.characters-init
characters-init g c = record {
  keeps = Extends-self (g.T.Terms.contents c.args.terms.now);
  stays = refl;
  list_in = c.requires.nil_is.known;
  made = ap (all_prepended c.args.characters.items) c.requires.nil_is.is
      ∙ all_prepended-nil c.args.characters.items;
}

pub characters-preserved : goal.characters-preserved
characters-preserved g c =
    let old = g.T.Terms.contents c.characters.terms in
    let left = c.pop.new.self.items in
    let x = c.in-Some.character in
    record {
      keeps = Extends-trans _ _ _ c.characters.invariant.keeps c.in_ok-list.ensures.keeps;
      stays = c.in_ok-list.ensures.stays ∙ c.characters.invariant.stays;
      list_in = c.in_ok-list.ensures.ok.known;
      made = ap (all_prepended left) c.in_ok-list.ensures.ok.is
          ∙ sym (all_prepended-push left x (tree_at old c.characters.list))
          ∙ ap (λ cs. all_prepended cs (tree_at old c.characters.list)) (sym c.in-Some.ensures.items) ∙ c.characters.invariant.made;
    }
