use Rattle.std.proofs.Common.{◌≡◌, ◌<◌, ◌+◌, suc, length, take, drop, map, refl, ap, sym, subst, ◌∙◌, arith}
use Rattle.lk_tree.specs.Tree.{Tree, const, app}
use Rattle.lk_tree.specs.Spine.{apply, args}
use Rattle.lk_rulebook.specs.Structures.{before_major, before_indices}
use Rattle.lk_store.specs.Contents.{Contents, name_at, list_at, tree_at, IsTree}
use Rattle.lk_store.proofs.Extending.{Extends-trans}
use Rattle.lk_spine.specs.Reading.{AreTrees}
use Rattle.std.specs.Prelude.{slice_index_or}
use Rattle.lk_derive_iota.proofs.Growing.{tree_grows, trees_grow}
use Rattle.lk_derive_iota.proofs.RedexRuns.{first_ones, last_ones, one_at, take_fewer, fewer, rec_app}
use Rattle.lk_derive_iota.proofs.redexes.parts.Goals as goal

pub returns-clause-is : goal.returns-clause-is
returns-clause-is g c =
    let b = (g.D.Looks.sight (g.D.Terms.rest c.args.derives.now)).basis in
    let old : Contents = g.D.Terms.contents c.args.derives.now in
    let m : Contents = g.D.Terms.contents c.apply.new.terms in
    let d : Contents = g.D.Terms.contents c.make.new.self in
    let E : Tree = tree_at old c.args.e in
    let k = c.requires.headed in
    let n = before_major k.recursor in
    let es = c.args.arguments.now in
    let before = c.args.shape.before in
    let number = slice_index_or es before 0 in
    let first : Tree = tree_at old number in
    let C : Tree = const (name_at old c.args.headed.name) (list_at old c.args.headed.levels) in
    let at = one_at old es (args E) before n 0 c.requires.arguments_are c.requires.many k.shape.before_are in
    let R = rec_app b old E c.args.headed c.args.shape k first at c.requires.fine in
    let x = Extends-trans _ _ _ c.apply.ensures.keeps c.make.ensures.keeps in
    let number_in : number < length old.trees = c.requires.arguments_are.known before 0 c.requires.many in
    let longer = x.trees.longer in
    let lists = x.lists.longer in
    let e_in = c.requires.e_in in
    let levels_in = c.requires.levels_in in
    let number_later : number < length m.trees = (let grown = c.apply.ensures.keeps.trees.longer in omega arith) in
    let firsts : AreTrees old (take before es) (take n (args E)) = first_ones old es (take before es) (args E) before n c.requires.arguments_are refl k.shape.before_are in
    let front : IsTree m c.in_ok-front.front (apply C (take n (args E))) = record {
      known = c.in_ok-front.ensures.ok.known;
      is = c.in_ok-front.ensures.ok.is ∙ ap (λ z. apply z (map (tree_at old) (take before es))) (c.head-start.ensures.is ∙ k.head_is) ∙ ap (apply C) firsts.are;
    } in
    let shared : AreTrees old c.in_ok-copied.field-0.items (take (before_indices k.recursor) (take n (args E))) =
    subst (λ z. AreTrees old c.in_ok-copied.field-0.items z) (sym (take_fewer (before_indices k.recursor) n (args E) (fewer k.recursor)))
    (first_ones old es c.in_ok-copied.field-0.items (args E) c.args.shape.shared (before_indices k.recursor) c.requires.arguments_are c.in_ok-copied.ensures k.shape.shared_are) in
    let before_is = k.shape.before_are in
    let next : before + 1 ≡ suc n = omega arith in
    let behind : AreTrees old c.in_ok-copied-2.field-0.items (drop (suc n) (args E)) =
    last_ones old es c.in_ok-copied-2.field-0.items (args E) (before + 1) (suc n) c.requires.arguments_are (c.in_ok-copied-2.ensures ∙ c.split_at.ensures.back) next in
    record {
      R = R;
      first = first;
      rest = drop (suc n) (args E);
      redex = record {
        entry_is = k.is;
        levels_in = omega arith;
        levels_are = x.lists.same c.args.headed.levels c.requires.levels_in;
        k_is = k.shape.k_is;
        application_is = record { known = omega arith; is = x.trees.same c.args.e c.requires.e_in };
        front_is = tree_grows c.make.ensures.keeps c.in_ok-front.front (apply C (take n (args E))) front;
        major_is = record { known = omega arith; is = x.trees.same number number_in };
        reached_is = record {
          known = c.in_ok-reached.ensures.ok.known;
          is = c.in_ok-reached.ensures.ok.is ∙ ap (λ z. app z (tree_at m number)) front.is ∙ ap (app (apply C (take n (args E)))) (c.apply.ensures.keeps.trees.same number number_in);
        };
        shared_are = trees_grow x c.in_ok-copied.field-0.items _ shared;
        behind_are = trees_grow x c.in_ok-copied-2.field-0.items _ behind;
      };
      head_is = k.head_is;
      front_is = refl;
      first_is = at;
      rest_is = refl;
    }
