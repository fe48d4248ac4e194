-- Questions and steps that are added to a row under way.
use Rattle.std.proofs.Common.{ℕ, ◌≡◌, ◌+◌, ◌<◌, inl, true, Some, List, [], ◌∷◌, ◌++◌, length, refl, subst, sym, ap, ◌∙◌, arith}
use Rattle.lk_tree.specs.Tree.{Tree}
use Rattle.lk_rulebook.specs.Place.{Place}
use Rattle.lk_rulebook.specs.Claims.{Claim, reduces, equals}
use Rattle.lk_questions.specs.Query.{same}
use Rattle.lk_questions.specs.Pairs.{Line}
use Rattle.lk_questions.specs.Sound.{IsAskable}
use Rattle.lk_questions.specs.Steps.{is_same_tree}
use Rattle.lk_store.specs.Contents.{Contents, tree_at}
use Rattle.lk_store.proofs.Made.{Extends-self}
use Rattle.lk_ask.specs.declared.query.Query.TheVariants.{Same}
use Rattle.lk_trace.specs.declared.rules.ConversionRule.{ConversionRule}
use Rattle.lk_trace.specs.declared.rules.Rule.TheVariants.{Conversion}
use Rattle.lk_trace.specs.Meaning.{conversion_rule_of, IsRuleIn, IsConversionRuleIn}
use Rattle.lk_premises.specs.Claims.{claims_at, AreClaimsIn}
use Rattle.lk_step.specs.declared.step.Step.{Step}
use Rattle.lk_step.specs.declared.step.Row.{Row}
use Rattle.lk_step.specs.Steps as steps
use Rattle.lk_step.specs.Steps.{StepHolds}
use Rattle.lk_step.specs.Rows.{IsAnswered}
use Rattle.lk_step.specs.Meaning.{step_by}
use Rattle.lk_step.specs.Runs.{Runs}
use Rattle.lk_step.specs.Parts.{AreThere, IsPartIn, IsEmpty, Asks, States}
use Rattle.lk_step.proofs.Parts.{first, behind, all_of}
use Rattle.lk_step.proofs.PartsIn.{part_none, part_asks, part_states, part_states_there, part_these}
use Rattle.lk_derive_lazy.specs.Turns.{AreSame, Bears}

pub same_asked : (w : Place) (c : Contents) (old new : Row) (x y n : ℕ) → x < length c.trees → y < length c.trees → new.asks.items ≡ old.asks.items ++ Same x y ∷ [] → new.steps ≡ old.steps →
    IsAskable (same (tree_at c x) (tree_at c y)) → IsAnswered w (same (tree_at c x) (tree_at c y)) true n → Asks w c c old new (equals (tree_at c x) (tree_at c y)) n
same_asked w c old new x y n lx ly asks ss f h = part_asks w c c (Extends-self c) old new (Same x y) (same (tree_at c x) (tree_at c y)) true n (lx, ly) refl f h refl asks ss

pub equality_added : (w : Place) (c : Contents) (old new : Row) (step : Step) (rule : ConversionRule) (a b : Tree) (cs : List Claim) → step.rule ≡ Conversion rule → IsConversionRuleIn c rule → step.left < length c.trees → step.right < length c.trees → AreClaimsIn c step.premises.items →
    tree_at c step.left ≡ a → tree_at c step.right ≡ b → claims_at c step.premises.items ≡ cs → StepHolds w (steps.equality (conversion_rule_of c rule) a b cs) → new.asks ≡ old.asks →
    new.steps.items ≡ old.steps.items ++ step ∷ [] → States w c old new cs (equals a b)
equality_added w c old new step rule a b cs is known l r ps ea eb ecs holds asks ss =
    part_states w c old new step (steps.equality (conversion_rule_of c rule) a b cs) (record { rule_in = subst (IsRuleIn c) (sym is) known; left_in = l; right_in = r; premises_in = ps })
    (ap (λ z. step_by c z step) is
    ∙ ap (λ z. steps.equality (conversion_rule_of c rule) z (tree_at c step.right) (claims_at c step.premises.items)) ea
    ∙ ap (λ z. steps.equality (conversion_rule_of c rule) a z (claims_at c step.premises.items)) eb ∙ ap (steps.equality (conversion_rule_of c rule) a b) ecs) holds asks ss

pub itself_stated : (w : Place) (c : Contents) (r : Row) (a b : Tree) → is_same_tree a b ≡ true → States w c r r [] (reduces a b)
itself_stated w c r a b e = part_states_there w c r [] (reduces a b) (λ xs h. inl e)

-- two terms that reduce to these, which are the same
pub reduced_part : (w : Place) (c : Contents) (none asked left right whole : Row) (a b x y : Tree) (n : ℕ) → IsEmpty none → Asks w c c none asked (equals x y) n → States w c asked left [] (reduces a x) → States w c left right [] (reduces b y) →
    States w c right whole (reduces a x ∷ reduces b y ∷ equals x y ∷ []) (equals a b) → IsPartIn w c whole (equals a b ∷ []) n
reduced_part w c none asked left right whole a b x y n empty f g h k =
    let p1 : IsPartIn w c asked (equals x y ∷ []) (0 + n) = f [] 0 (part_none w c none empty) in
    let p2 : IsPartIn w c left (reduces a x ∷ equals x y ∷ []) (0 + n) = g (equals x y ∷ []) (0 + n) tt p1 in
    let p3 : IsPartIn w c right (reduces b y ∷ reduces a x ∷ equals x y ∷ []) (0 + n) = h (reduces a x ∷ equals x y ∷ []) (0 + n) tt p2 in
    let there : AreThere (reduces b y ∷ reduces a x ∷ equals x y ∷ []) (reduces a x ∷ reduces b y ∷ equals x y ∷ []) = (
      behind (reduces b y) (reduces a x ∷ equals x y ∷ []) (reduces a x) (first (reduces a x) (equals x y ∷ [])),
      (
        first (reduces b y) (reduces a x ∷ equals x y ∷ []),
        (behind (reduces b y) (reduces a x ∷ equals x y ∷ []) (equals x y) (behind (reduces a x) (equals x y ∷ []) (equals x y) (first (equals x y) [])), tt),
      ),
    ) in
    let p4 : IsPartIn w c whole (equals a b ∷ reduces b y ∷ reduces a x ∷ equals x y ∷ []) (0 + n) = k (reduces b y ∷ reduces a x ∷ equals x y ∷ []) (0 + n) there p3 in
    part_these w c whole (equals a b ∷ reduces b y ∷ reduces a x ∷ equals x y ∷ []) (equals a b ∷ []) (0 + n) n (first (equals a b) (reduces b y ∷ reduces a x ∷ equals x y ∷ []), tt) (omega arith) p4

pub turned_bears : (w : Place) (c : Contents) (line : Line) (a b x y : Tree) (r : Row) → ((n : ℕ) → IsAnswered w (same x y) true n → IsPartIn w c r (equals a b ∷ []) n) → ((n : ℕ) → Runs w line (Some true) n → AreSame w x y n) → Bears w c line (equals a b) r
turned_bears w c line a b x y r f g = λ n h.
    let s : AreSame w x y n = g n h in
    part_these w c r (equals a b ∷ []) (equals a b ∷ []) s.cost n (first (equals a b) [], tt) s.within (f s.cost s.answered)

-- two applications whose heads are stated, behind what is asked of their arguments
pub applied_part : (w : Place) (c : Contents) (asked headed whole : Row) (a b f g : Tree) (cs : List Claim) (n : ℕ) → IsPartIn w c asked cs n → States w c asked headed [] (equals f g) → States w c headed whole (equals f g ∷ cs) (equals a b) → IsPartIn w c whole (equals a b ∷ []) n
applied_part w c asked headed whole a b f g cs n p h k =
    let q : IsPartIn w c headed (equals f g ∷ cs) n = h cs n tt p in
    part_these w c whole (equals a b ∷ equals f g ∷ cs) (equals a b ∷ []) n n (first (equals a b) (equals f g ∷ cs), tt) (omega arith) (k (equals f g ∷ cs) n (all_of (equals f g ∷ cs)) q)
