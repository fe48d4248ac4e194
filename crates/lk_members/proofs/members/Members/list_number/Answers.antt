use Rattle.std.proofs.Common.{ℕ, List, [], ◌∷◌, ◌++◌, map, refl, ap, ◌∙◌}
use Rattle.std.specs.Prelude.{Vec}
use Rattle.std.specs.declared.alloc.Global.{Global}
use Rattle.std.proofs.lemmas.List.{map-append}
use Rattle.lk_members.specs.Stored.{lines_of}
use Rattle.lk_members.proofs.Grouping.{not_listed, listed_last}
use Rattle.lk_members.proofs.Indexing.{listed_more}
use Rattle.lk_members.proofs.members.Members.list_number.Goals as goal

pub returns-clause-indexed : goal.returns-clause-indexed
returns-clause-indexed c =
    let m = c.args.self.now in
    let ts = c.args.types.now in
    let named = c.new-names.ensures ∙ c.in_ok-from_slice.ensures.items in
    listed_more m _ (lines_of m.lines.items) ts c.requires (λ n. refl) (λ q. refl) (λ n. refl) (λ q. refl)
    (c.in_ok-push.ensures.ok ∙ ap (λ (x : List ℕ). m.lists ++ x ∷ []) named)
    (ap (map (λ (g : Vec ℕ Global). g.items)) c.in_ok-push-2.ensures.items ∙ map-append (λ (g : Vec ℕ Global). g.items) m.recursors.items (c.new.result ∷ []) ∙ ap (λ (g : List ℕ). map (λ (g : Vec ℕ Global). g.items) m.recursors.items ++ g ∷ []) c.new.ensures.items)
    (not_listed m.lists c.new-names.result ts named c.in_default.ensures.absent)

pub returns-clause-listed : goal.returns-clause-listed
returns-clause-listed c =
    let m = c.args.self.now in
    listed_last m.lists c.push.new.self c.len-number.result c.args.types.now (c.in_ok-push.ensures.ok ∙ ap (λ (x : List ℕ). m.lists ++ x ∷ []) (c.new-names.ensures ∙ c.in_ok-from_slice.ensures.items)) c.len-number.ensures.len
