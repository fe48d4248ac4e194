use Rattle.std.proofs.Common.{rules, suc, ap, sym, ◌∙◌}
use Rattle.lk_tree.specs.Bind.{has_var}
use Rattle.lk_store.specs.Contents.{tree_at}
use Rattle.lk_type.proofs.Openings.{or_left, or_right}
use Rattle.lk_type.proofs.Marks.{ok_then, one_more, inside_subterm, body_subterm, IsLeaf, leaves_closed, leaves_leaf, leaves_subterm, leaves_both, leaves_binder, leaves_let}
use Rattle.lk_type.proofs.marking.add_subterms.Goals as goal

pub returns-then-loose_bound-eq0-clause-left : goal.returns-then-loose_bound-eq0-clause-left
returns-then-loose_bound-eq0-clause-left g c =
    leaves_closed {c = g.L.Terms.contents c.args.looks.now} {p = c.args.subterm} c.args.subterms.now.items (sym c.loose_bound.ensures ∙ c.if-loose_bound-eq0.true)

pub returns-in_ok-add_subterm-in-App-clause-subterms : goal.returns-in_ok-add_subterm-in-App-clause-subterms
returns-in_ok-add_subterm-in-App-clause-subterms g c =
    let t = tree_at (g.L.Terms.contents c.args.looks.now) in
    let first = one_more c.args.subterms.now.items c.add_subterm.new.subterms.items _ c.requires.subterms (inside_subterm c.in-App.f c.requires.subterm c.in-App.ensures.known.0
    (λ v o. ap (has_var v) (sym c.in-App.ensures.tree) ∙ or_left (has_var v (t c.in-App.f)) (has_var v (t c.in-App.a)) o))
    c.in_ok-add_subterm-in-App.ensures in
    ok_then c.add_subterm-in-App.result (one_more c.add_subterm.new.subterms.items c.add_subterm-in-App.new.subterms.items _ first (inside_subterm c.in-App.a c.requires.subterm c.in-App.ensures.known.1
    (λ v o. ap (has_var v) (sym c.in-App.ensures.tree) ∙ or_right (has_var v (t c.in-App.f)) (has_var v (t c.in-App.a)) o)))
    c.add_subterm-in-App.ensures

pub returns-in_ok-add_subterm-in-App-clause-left : goal.returns-in_ok-add_subterm-in-App-clause-left
returns-in_ok-add_subterm-in-App-clause-left g c =
    ok_then c.add_subterm-in-App.result (λ is. leaves_both {c = g.L.Terms.contents c.args.looks.now} {p = c.args.subterm} c.in-App.f c.in-App.a c.args.subterms.now.items c.add_subterm.new.subterms.items c.add_subterm-in-App.new.subterms.items
    c.in_ok-add_subterm-in-App.ensures is (λ v. ap (has_var v) (sym c.in-App.ensures.tree))) c.add_subterm-in-App.ensures

pub returns-in_ok-add_subterm-in-Lam-clause-subterms : goal.returns-in_ok-add_subterm-in-Lam-clause-subterms
returns-in_ok-add_subterm-in-Lam-clause-subterms g c =
    let t = tree_at (g.L.Terms.contents c.args.looks.now) in
    let first = one_more c.args.subterms.now.items c.add_subterm-in-Lam.new.subterms.items _ c.requires.subterms (inside_subterm c.in-Lam.domain c.requires.subterm c.in-Lam.ensures.known.0
    (λ v o. ap (has_var v) (sym c.in-Lam.ensures.tree) ∙ or_left (has_var v (t c.in-Lam.domain)) (has_var (suc v) (t c.in-Lam.body)) o))
    c.in_ok-add_subterm-in-Lam.ensures in
    ok_then c.add_body.result (one_more c.add_subterm-in-Lam.new.subterms.items c.add_body.new.subterms.items _ first (body_subterm c.in-Lam.body c.requires.subterm c.in-Lam.ensures.known.1
    (λ v o. ap (has_var v) (sym c.in-Lam.ensures.tree) ∙ or_right (has_var v (t c.in-Lam.domain)) (has_var (suc v) (t c.in-Lam.body)) o)))
    c.add_body.ensures

pub returns-in_ok-add_subterm-in-Lam-clause-left : goal.returns-in_ok-add_subterm-in-Lam-clause-left
returns-in_ok-add_subterm-in-Lam-clause-left g c =
    ok_then c.add_body.result (λ is. leaves_binder {c = g.L.Terms.contents c.args.looks.now} {p = c.args.subterm} c.in-Lam.domain c.in-Lam.body c.args.subterms.now.items c.add_subterm-in-Lam.new.subterms.items c.add_body.new.subterms.items
    c.in_ok-add_subterm-in-Lam.ensures is (λ v. ap (has_var v) (sym c.in-Lam.ensures.tree))) c.add_body.ensures

pub returns-in_ok-add_subterm-in-Pi-clause-subterms : goal.returns-in_ok-add_subterm-in-Pi-clause-subterms
returns-in_ok-add_subterm-in-Pi-clause-subterms g c =
    let t = tree_at (g.L.Terms.contents c.args.looks.now) in
    let first = one_more c.args.subterms.now.items c.add_subterm-in-Pi.new.subterms.items _ c.requires.subterms (inside_subterm c.in-Pi.domain c.requires.subterm c.in-Pi.ensures.known.0
    (λ v o. ap (has_var v) (sym c.in-Pi.ensures.tree) ∙ or_left (has_var v (t c.in-Pi.domain)) (has_var (suc v) (t c.in-Pi.body)) o))
    c.in_ok-add_subterm-in-Pi.ensures in
    ok_then c.add_body-in-Pi.result (one_more c.add_subterm-in-Pi.new.subterms.items c.add_body-in-Pi.new.subterms.items _ first (body_subterm c.in-Pi.body c.requires.subterm c.in-Pi.ensures.known.1
    (λ v o. ap (has_var v) (sym c.in-Pi.ensures.tree) ∙ or_right (has_var v (t c.in-Pi.domain)) (has_var (suc v) (t c.in-Pi.body)) o)))
    c.add_body-in-Pi.ensures

pub returns-in_ok-add_subterm-in-Pi-clause-left : goal.returns-in_ok-add_subterm-in-Pi-clause-left
returns-in_ok-add_subterm-in-Pi-clause-left g c =
    ok_then c.add_body-in-Pi.result (λ is. leaves_binder {c = g.L.Terms.contents c.args.looks.now} {p = c.args.subterm} c.in-Pi.domain c.in-Pi.body c.args.subterms.now.items c.add_subterm-in-Pi.new.subterms.items c.add_body-in-Pi.new.subterms.items
    c.in_ok-add_subterm-in-Pi.ensures is (λ v. ap (has_var v) (sym c.in-Pi.ensures.tree))) c.add_body-in-Pi.ensures

pub returns-in_ok-add_subterm-in-Let-2-clause-subterms : goal.returns-in_ok-add_subterm-in-Let-2-clause-subterms
returns-in_ok-add_subterm-in-Let-2-clause-subterms g c =
    let t = tree_at (g.L.Terms.contents c.args.looks.now) in
    let first = one_more c.args.subterms.now.items c.add_subterm-in-Let.new.subterms.items _ c.requires.subterms (inside_subterm c.in-Let.ty c.requires.subterm c.in-Let.ensures.known.0
    (λ v o. ap (has_var v) (sym c.in-Let.ensures.tree) ∙ or_left (has_var v (t c.in-Let.ty)) _ o))
    c.in_ok-add_subterm-in-Let.ensures in
    let second = one_more c.add_subterm-in-Let.new.subterms.items c.add_subterm-in-Let-2.new.subterms.items _ first (inside_subterm c.in-Let.value c.requires.subterm c.in-Let.ensures.known.1
    (λ v o. ap (has_var v) (sym c.in-Let.ensures.tree) ∙ or_right (has_var v (t c.in-Let.ty)) _ (or_left (has_var v (t c.in-Let.value)) (has_var (suc v) (t c.in-Let.body)) o)))
    c.in_ok-add_subterm-in-Let-2.ensures in
    ok_then c.add_body-in-Let.result (one_more c.add_subterm-in-Let-2.new.subterms.items c.add_body-in-Let.new.subterms.items _ second (body_subterm c.in-Let.body c.requires.subterm c.in-Let.ensures.known.2
    (λ v o. ap (has_var v) (sym c.in-Let.ensures.tree) ∙ or_right (has_var v (t c.in-Let.ty)) _ (or_right (has_var v (t c.in-Let.value)) (has_var (suc v) (t c.in-Let.body)) o))))
    c.add_body-in-Let.ensures

pub returns-in_ok-add_subterm-in-Let-2-clause-left : goal.returns-in_ok-add_subterm-in-Let-2-clause-left
returns-in_ok-add_subterm-in-Let-2-clause-left g c =
    ok_then c.add_body-in-Let.result (λ is. leaves_let {c = g.L.Terms.contents c.args.looks.now} {p = c.args.subterm} c.in-Let.ty c.in-Let.value c.in-Let.body c.args.subterms.now.items c.add_subterm-in-Let.new.subterms.items c.add_subterm-in-Let-2.new.subterms.items c.add_body-in-Let.new.subterms.items
    c.in_ok-add_subterm-in-Let.ensures c.in_ok-add_subterm-in-Let-2.ensures is (λ v. ap (has_var v) (sym c.in-Let.ensures.tree))) c.add_body-in-Let.ensures

pub returns-in-Proj-clause-subterms : goal.returns-in-Proj-clause-subterms
returns-in-Proj-clause-subterms g c =
    ok_then c.add_subterm-in-Proj.result (one_more c.args.subterms.now.items c.add_subterm-in-Proj.new.subterms.items _ c.requires.subterms (inside_subterm c.in-Proj.subject c.requires.subterm c.in-Proj.ensures.known.1
    (λ v o. ap (has_var v) (sym c.in-Proj.ensures.tree) ∙ o))) c.add_subterm-in-Proj.ensures

pub returns-in-Proj-clause-left : goal.returns-in-Proj-clause-left
returns-in-Proj-clause-left g c =
    ok_then c.add_subterm-in-Proj.result (λ is. leaves_subterm {c = g.L.Terms.contents c.args.looks.now} {p = c.args.subterm} c.in-Proj.subject c.args.subterms.now.items c.add_subterm-in-Proj.new.subterms.items
    is (λ v. ap (has_var v) (sym c.in-Proj.ensures.tree))) c.add_subterm-in-Proj.ensures

pub returns-in_default : goal.returns-in_default
returns-in_default g c =
    let leaf : IsLeaf (tree_at (g.L.Terms.contents c.args.looks.now) c.args.subterm.e) = search rules in
    record {
      subterms = c.requires.subterms;
      left = leaves_leaf {c = g.L.Terms.contents c.args.looks.now} {p = c.args.subterm} c.args.subterms.now.items leaf;
    }
