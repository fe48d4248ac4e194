-- Where nothing stands for anything, trees and recursors are read back as they are.
use Rattle.std.proofs.Common.{◌≡◌, List, [], ◌∷◌, length, refl, ap, ◌∙◌}
use Rattle.lk_tree.specs.Tree.{Tree, var, sort, const, app, lam, pi, let_in, proj, lit, wide, str, local}
use Rattle.lk_tree.specs.Spine.{apply}
use Rattle.lk_inductive.specs.Block.{CtorShape, TypeShape, Shape}
use Rattle.lk_inductive.specs.Recursors.{as_they_are, pis, lams, rec_body, rule_body, rule_value, rules_of, rec_of, recs_from, past_minors}
use Rattle.lk_inductive.specs.Nested.{Setting}
use Rattle.lk_inductive.specs.Restore.{restore, restoring}

-- a tree
pub back_none : (s : Setting) (e : Tree) (xs : List Tree) → restore [] s e xs ≡ apply e xs
back_none s (app f a) xs = back_none s f (restore [] s a [] ∷ xs) ∙ ap (λ b. apply (app f b) xs) (back_none s a [])
back_none s (const c ls) xs = refl
back_none s (lam A b) xs = ap (λ D. apply (lam D (restore [] s b [])) xs) (back_none s A []) ∙ ap (λ c. apply (lam A c) xs) (back_none s b [])
back_none s (pi A b) xs = ap (λ D. apply (pi D (restore [] s b [])) xs) (back_none s A []) ∙ ap (λ c. apply (pi A c) xs) (back_none s b [])
back_none s (let_in A v b) xs =
    ap (λ D. apply (let_in D (restore [] s v []) (restore [] s b [])) xs) (back_none s A [])
    ∙ (ap (λ u. apply (let_in A u (restore [] s b [])) xs) (back_none s v []) ∙ ap (λ c. apply (let_in A v c) xs) (back_none s b []))
back_none s (proj S i e) xs = ap (λ c. apply (proj S i c) xs) (back_none s e [])
back_none s (var i) xs = refl
back_none s (sort l) xs = refl
back_none s (lit k) xs = refl
back_none s wide xs = refl
back_none s (str k) xs = refl
back_none s (local k T) xs = refl

-- recursors
same_rule_values : (s : Shape) (qs : Setting) (ms : List Tree) (cs : List CtorShape) → rules_of (restoring [] qs) s ms cs ≡ rules_of as_they_are s ms cs
same_rule_values s qs [] cs = refl
same_rule_values s qs (m ∷ ms) [] = refl
same_rule_values s qs (m ∷ ms) (c ∷ cs) =
    ap (λ e. record { ctor = c.name; fields = length c.fields; value = lams s.params e } ∷ rules_of (restoring [] qs) s ms cs) (back_none qs (rule_body s m c) [])
    ∙ ap (λ rs. record { ctor = c.name; fields = length c.fields; value = rule_value as_they_are s m c } ∷ rs) (same_rule_values s qs ms cs)

same_rec : (s : Shape) (qs : Setting) (ms : List Tree) (t : TypeShape) → rec_of (restoring [] qs) s ms t ≡ rec_of as_they_are s ms t
same_rec s qs ms t =
    ap (λ e. record (rec_of (restoring [] qs) s ms t) { type = pis s.params e }) (back_none qs (rec_body s t) [])
    ∙ ap (λ rs. record (rec_of as_they_are s ms t) { recursor = record (rec_of as_they_are s ms t).recursor { rules = rs } }) (same_rule_values s qs ms t.ctors)

pub same_recs : (s : Shape) (qs : Setting) (ms : List Tree) (ts : List TypeShape) → recs_from (restoring [] qs) s ms ts ≡ recs_from as_they_are s ms ts
same_recs s qs ms [] = refl
same_recs s qs ms (t ∷ ts) = ap (λ r. r ∷ recs_from (restoring [] qs) s (past_minors t.ctors ms) ts) (same_rec s qs ms t) ∙ ap (λ rs. rec_of as_they_are s ms t ∷ rs) (same_recs s qs (past_minors t.ctors ms) ts)
