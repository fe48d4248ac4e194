use Rattle.std.proofs.Common.{rules, ◌≡◌, ◌+◌, map, length, ap, sym, subst, ◌∙◌, arith}
use Rattle.std.specs.Prelude.{IfSome}
use Rattle.std.proofs.lemmas.List.{length-map}
use Rattle.lk_tree.specs.Tree.{param}
use Rattle.lk_store.specs.Contents.{name_at, tree_at, IsList}
use Rattle.lk_store.proofs.Extending.{Extends-trans}
use Rattle.lk_spine.specs.Reading.{AreTrees}
use Rattle.lk_inductive.specs.Block as plain
use Rattle.lk_inductive.specs.Recursors.{minors, rec_params, shape_bound}
use Rattle.lk_block.specs.Shapes.{shape_at, type_shape_at}
use Rattle.lk_restore.specs.Steady.{originals-stay}
use Rattle.lk_recursor.proofs.Fronts.{front_made}
use Rattle.lk_env.proofs.Stays.{names_stay, names_in_stay}
use Rattle.lk_block.proofs.Shaping.{shape-steady, shape-known}
use Rattle.lk_recursor.proofs.Steady.{list-steady, AreTrees-steady, heads-steady}
use Rattle.lk_recursor.specs.Telescopes.{IsFrontTelescope}
use Rattle.lk_recursor.proofs.front.front_of.Goals as goal

pub heads_of-requires-clause-first_is : goal.heads_of-requires-clause-first_is
heads_of-requires-clause-first_is g c =
    let before = g.T.Terms.contents c.args.terms.now in
    let first = g.T.Terms.contents c.level_names.new.terms in
    let second = g.T.Terms.contents c.parameter_levels.new.terms in
    c.in_ok-first.ensures ∙ ap shape_bound (sym (shape-steady before second (Extends-trans before first second c.in_ok-names.ensures.keeps c.in_ok-levels.ensures.keeps) c.args.shape.now c.requires.shape_in))

pub minors_of-requires-clause-first_is : goal.minors_of-requires-clause-first_is
minors_of-requires-clause-first_is g c =
    let before = g.T.Terms.contents c.args.terms.now in
    let first = g.T.Terms.contents c.level_names.new.terms in
    let second = g.T.Terms.contents c.parameter_levels.new.terms in
    let third = g.T.Terms.contents c.heads_of.new.terms in
    let s = c.args.shape.now in
    let grown = Extends-trans before second third (Extends-trans before first second c.in_ok-names.ensures.keeps c.in_ok-levels.ensures.keeps) c.in_ok-heads.ensures.keeps in
    let p = shape_at before s in
    let first_is : c.in_ok-first.first ≡ shape_bound p = c.in_ok-first.ensures in
    let past : c.in_ok-first_minor.first_minor ≡ c.in_ok-first.first + c.len.result = c.in_ok-first_minor.ensures in
    let many : c.len.result ≡ length s.types.items = search rules in
    let types = length-map s.types.items (type_shape_at before) in
    let here : c.in_ok-first_minor.first_minor ≡ shape_bound p + length p.types = omega arith in
    subst (λ (q : plain.Shape). c.in_ok-first_minor.first_minor ≡ shape_bound q + length q.types) (sym (shape-steady before third grown s c.requires.shape_in)) here

pub telescope_for-requires-clause-heads_are : goal.telescope_for-requires-clause-heads_are
telescope_for-requires-clause-heads_are g c =
    let before = g.T.Terms.contents c.args.terms.now in
    let first = g.T.Terms.contents c.level_names.new.terms in
    let second = g.T.Terms.contents c.parameter_levels.new.terms in
    let third = g.T.Terms.contents c.heads_of.new.terms in
    let fourth = g.T.Terms.contents c.minors_of.new.terms in
    let s = c.args.shape.now in
    let heads = c.in_ok-heads.ensures in
    let to_third = Extends-trans before second third (Extends-trans before first second c.in_ok-names.ensures.keeps c.in_ok-levels.ensures.keeps) heads.keeps in
    heads-steady third fourth c.in_ok-minors.ensures.keeps s c.in_ok-heads.heads (shape-known before third to_third s c.requires.shape_in) heads.ok

pub telescope_for-requires-clause-minors_are : goal.telescope_for-requires-clause-minors_are
telescope_for-requires-clause-minors_are g c =
    let before = g.T.Terms.contents c.args.terms.now in
    let first = g.T.Terms.contents c.level_names.new.terms in
    let second = g.T.Terms.contents c.parameter_levels.new.terms in
    let third = g.T.Terms.contents c.heads_of.new.terms in
    let fourth = g.T.Terms.contents c.minors_of.new.terms in
    let s = c.args.shape.now in
    let ms = c.in_ok-minors.minors.items in
    let last = c.in_ok-minors.ensures in
    let to_third = Extends-trans before second third (Extends-trans before first second c.in_ok-names.ensures.keeps c.in_ok-levels.ensures.keeps) c.in_ok-heads.ensures.keeps in
    let same = sym (shape-steady third fourth last.keeps s (shape-known before third to_third s c.requires.shape_in)) in
    subst (λ es. AreTrees fourth es (minors (shape_at fourth s))) (sym c.deref-2.ensures.value) (subst (λ (q : plain.Shape). AreTrees fourth ms (minors q)) same last.ok)

pub returns-clause-ok : goal.returns-clause-ok
returns-clause-ok g c =
    let before = g.T.Terms.contents c.args.terms.now in
    let first = g.T.Terms.contents c.level_names.new.terms in
    let second = g.T.Terms.contents c.parameter_levels.new.terms in
    let third = g.T.Terms.contents c.heads_of.new.terms in
    let fourth = g.T.Terms.contents c.minors_of.new.terms in
    let after = g.T.Terms.contents c.telescope_for.new.terms in
    let s = c.args.shape.now in
    let p = shape_at before s in
    let names = c.in_ok-names.ensures in
    let levels = c.in_ok-levels.ensures in
    let heads = c.in_ok-heads.ensures in
    let last = c.in_ok-minors.ensures in
    let to_third = Extends-trans before second third (Extends-trans before first second names.keeps levels.keeps) heads.keeps in
    let kept = c.in_ok-telescope.ensures in
    let from_third = Extends-trans third fourth after last.keeps kept.keeps in
    let from_second = Extends-trans second third after heads.keeps from_third in
    let from_first = Extends-trans first second after levels.keeps from_second in
    let ns = c.in_ok-names.names in
    let ls = c.in_ok-levels.levels in
    let ms = c.in_ok-minors.minors in
    let to_fourth = Extends-trans before third fourth to_third last.keeps in
    let minors_are = AreTrees-steady fourth after kept.keeps ms.items (minors p) (subst (λ (q : plain.Shape). AreTrees fourth ms.items (minors q)) (shape-steady before third to_third s c.requires.shape_in) last.ok) in
    let telescope_is = subst (λ (q : plain.Shape). IfSome c.in_ok-telescope.telescope (IsFrontTelescope after q c.args.originals.now)) (shape-steady before fourth to_fourth s c.requires.shape_in) kept.ok in
    let first_is : c.in_ok-first.first ≡ shape_bound p = c.in_ok-first.ensures in
    let past : c.in_ok-first_minor.first_minor ≡ c.in_ok-first.first + c.len.result = c.in_ok-first_minor.ensures in
    let past_all : c.in_ok-major.major ≡ c.in_ok-first_minor.first_minor + c.len-2.result = c.in_ok-major.ensures in
    let many : c.len.result ≡ length s.types.items = search rules in
    let many_minors : c.len-2.result ≡ length ms.items = search rules in
    let types = length-map s.types.items (type_shape_at before) in
    let all : length (minors p) ≡ length ms.items = ap length (sym minors_are.are) ∙ length-map ms.items (tree_at after) in
    front_made after s p (shape-steady before after (Extends-trans before third after to_third from_third) s c.requires.shape_in)
    (record { heads = c.in_ok-heads.heads; names = ns; levels = ls; minors = ms; major = c.in_ok-major.major; originals = c.args.originals; telescope = c.in_ok-telescope.telescope })
    (heads-steady third after from_third s c.in_ok-heads.heads (shape-known before third to_third s c.requires.shape_in) heads.ok)
    (names_in_stay first after from_first ns.items names.known)
    (names_stay first after from_first ns.items names.known ∙ names.ok)
    (list-steady second after from_second ls (map param (rec_params p))
    (subst (λ xs. IsList second ls (map param xs)) (ap (map (name_at first)) c.deref.ensures.value ∙ names.ok) levels.ok))
    minors_are (omega arith)
    (originals-stay before after (Extends-trans before third after to_third from_third) p c.args.originals.now c.requires.originals_are) telescope_is
