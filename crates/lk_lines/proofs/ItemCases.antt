-- A line of fields: it spells an item that is read, or has a fault that is told.
use Rattle.std.proofs.Common.{◌≡◌, ℕ, true, false, List, [], ◌∷◌, Ok, Err, Some, None, refl, sym, ap, subst, inl, inr, arith}
use Rattle.std.specs.Prelude.{◌⊎◌, Contains}
use Rattle.std.specs.List.{AllByRecursion}
use Rattle.std.proofs.lemmas.List.Elements.{All-from_recursion, All-contains, Contains-append_right}
use Rattle.lk_lines.specs.declared.words.Word.{Word}
use Rattle.lk_lines.specs.declared.words.Word.TheVariants.{UnknownTag, MissingField, BadWord}
use Rattle.lk_lines.specs.declared.tags.Tag.{Tag}
use Rattle.lk_lines.specs.declared.tags.Tag.TheVariants as tag
use Rattle.lk_lines.specs.declared.tags.Dialect.{Dialect}
use Rattle.lk_lines.specs.declared.tags.Dialect.TheVariants.{Export, Rounds, Text, Trace}
use Rattle.lk_lines.specs.declared.rules.Family.{Family}
use Rattle.lk_lines.specs.declared.rules.Family.TheVariants as family
use Rattle.lk_lines.specs.declared.rules.RuleTag.{RuleTag}
use Rattle.lk_lines.specs.Values.{Value, OfRule}
use Rattle.lk_lines.specs.Table.{dues_of}
use Rattle.lk_lines.specs.Words.{find_word}
use Rattle.lk_lines.specs.Rules.{rule_word, rules_of, find_rule, rule_at, rule_dues}
use Rattle.lk_lines.specs.Tags.{tag_word, find_tag, numbered_tags, plain_tags}
use Rattle.lk_lines.specs.Reading.{number_at}
use Rattle.lk_lines.specs.Items.{Item, tag_at, values_at, numbered_at, plain_at, item_at, is_tag, SpellsValues, SpellsTagged, SpellsItem, ValuesFault, TagFault, ItemFault}
use Rattle.lk_lines.proofs.Numerals.{number_of-cases, bool_cases}
use Rattle.lk_lines.proofs.DueCases.{outcome, tag_cases}

-- Words that are looked up in a list: the first that has the word is found, or the fault is told.
module _ {A : Type 0} (none : Word) (word_of : A → List ℕ) where
  pub find_cases : (xs : List A) (word : List ℕ) → ((x : A) × Contains xs x × (find_word none word_of xs word ≡ Ok x) × (word ≡ word_of x)) ⊎ (find_word none word_of xs word ≡ Err none)
  find_cases [] word = inr refl
  find_cases (x ∷ xs) word = elim (tag_cases word (word_of x)) [
    | inl (e, q) ↦ inl (x, (0, omega arith, refl), rw e refl, q)
    | inr (e, n) ↦ elim (find_cases xs word) [
      | inl (y, among, is, q) ↦ inl (y, Contains-append_right (x ∷ []) xs y among, rw (e, is) refl, q)
      | inr is ↦ inr (rw (e, is) refl)
    ]
  ]

  -- each is the one that its word leads to
  abbrev pub IsLed : List A → A → Type 0
  IsLed xs x = find_word none word_of xs (word_of x) ≡ Ok x

  pub all_led : (xs : List A) → AllByRecursion (IsLed xs) xs → (x : A) → Contains xs x → IsLed xs x
  all_led xs each x among = All-contains (IsLed xs) xs x (All-from_recursion (IsLed xs) xs each) among

-- each tag of a list is the one that its word leads to
abbrev pub AreLed : List Tag → Type 0
AreLed tags = (t : Tag) → Contains tags t → find_tag tags (tag_word t) ≡ Ok t

each_numbered : (d : Dialect) → AllByRecursion (IsLed UnknownTag tag_word (numbered_tags d)) (numbered_tags d)
each_numbered Export = (refl, (refl, (refl, (refl, (refl, (refl, (refl, (refl, (refl, (refl, (refl, (refl, (refl, (refl, (refl, (refl, (refl, tt)))))))))))))))))
each_numbered Rounds = (refl, (refl, (refl, (refl, (refl, (refl, (refl, (refl, (refl, (refl, (refl, (refl, (refl, (refl, (refl, (refl, (refl, tt)))))))))))))))))
each_numbered Text = (refl, (refl, (refl, (refl, (refl, (refl, (refl, (refl, (refl, (refl, (refl, (refl, (refl, (refl, (refl, (refl, (refl, tt)))))))))))))))))
each_numbered Trace = (refl, (refl, (refl, (refl, (refl, (refl, (refl, (refl, (refl, (refl, (refl, (refl, (refl, (refl, (refl, (refl, (refl, (refl, (refl, (refl, (refl, tt)))))))))))))))))))))

pub numbered_led : (d : Dialect) → AreLed (numbered_tags d)
numbered_led d = all_led UnknownTag tag_word (numbered_tags d) (each_numbered d)

each_plain : (d : Dialect) → AllByRecursion (IsLed UnknownTag tag_word (plain_tags d)) (plain_tags d)
each_plain Export = (refl, (refl, (refl, (refl, (refl, (refl, (refl, (refl, (refl, tt)))))))))
each_plain Rounds = (refl, (refl, (refl, (refl, (refl, (refl, (refl, (refl, (refl, tt)))))))))
each_plain Text = (refl, (refl, (refl, (refl, (refl, (refl, (refl, (refl, tt))))))))
each_plain Trace = (refl, (refl, (refl, (refl, (refl, (refl, (refl, (refl, (refl, (refl, (refl, (refl, tt))))))))))))

pub plain_led : (d : Dialect) → AreLed (plain_tags d)
plain_led d = all_led UnknownTag tag_word (plain_tags d) (each_plain d)

each_rule : (f : Family) → AllByRecursion (IsLed BadWord rule_word (rules_of f)) (rules_of f)
each_rule family.Typing = (refl, (refl, (refl, (refl, (refl, (refl, (refl, (refl, (refl, (refl, tt))))))))))
each_rule family.Reduction = (refl, (refl, (refl, (refl, (refl, (refl, (refl, (refl, (refl, (refl, (refl, (refl, (refl, tt)))))))))))))
each_rule family.Conversion = (refl, (refl, (refl, (refl, (refl, (refl, (refl, (refl, (refl, (refl, (refl, (refl, (refl, (refl, (refl, (refl, tt))))))))))))))))

pub rule_led : (f : Family) (r : RuleTag) → Contains (rules_of f) r → find_rule (rules_of f) (rule_word r) ≡ Ok r
rule_led f = all_led BadWord rule_word (rules_of f) (each_rule f)

abbrev pub ValuesOutcome : ℕ → Tag → List ℕ → List (List ℕ) → Type 0
ValuesOutcome limit t text fields = ((values : List Value) × (values_at limit t text fields ≡ Ok values) × SpellsValues limit t values text fields)
    ⊎ ((w : Word) × (values_at limit t text fields ≡ Err w) × ValuesFault limit t text fields w)

derivation_cases : (limit : ℕ) (f : Family) (text : List ℕ) (fields : List (List ℕ)) → ValuesOutcome limit (tag.Derivation f) text fields
unfolding rule_at
derivation_cases limit f text [] = inr (MissingField, refl, refl)
derivation_cases limit f text (field ∷ fields) = elim (find_cases BadWord rule_word (rules_of f) field) [
  | inl (r, among, e, q) ↦ elim (outcome limit (rule_dues r) text fields) [
    | inl (values, is, s) ↦ inl (OfRule r ∷ values, rw (e, is) refl, (r, among, fields, ap (λ x. x ∷ fields) q, values, refl, s))
    | inr (w, is, h) ↦ inr (w, rw (e, is) refl, inr (r, among, q, h))
  ]
  | inr e ↦ inr (BadWord, rw e refl, inl (refl, λ r among q. let is : find_rule (rules_of f) field ≡ Ok r = subst (λ (w : List ℕ). find_rule (rules_of f) w ≡ Ok r) (sym q) (rule_led f r among) in absurd cc))
]

values_cases : (limit : ℕ) (t : Tag) (text : List ℕ) (fields : List (List ℕ)) → ValuesOutcome limit t text fields
values_cases limit (tag.Derivation f) text fields = derivation_cases limit f text fields
values_cases limit (tag.Entry t) text fields = outcome limit (dues_of (tag.Entry t)) text fields
values_cases limit (tag.Declaration t) text fields = outcome limit (dues_of (tag.Declaration t)) text fields
values_cases limit tag.Budget text fields = outcome limit (dues_of tag.Budget) text fields
values_cases limit tag.Go text fields = outcome limit (dues_of tag.Go) text fields
values_cases limit tag.Trace text fields = outcome limit (dues_of tag.Trace) text fields
values_cases limit tag.Section text fields = outcome limit (dues_of tag.Section) text fields
values_cases limit tag.Parts text fields = outcome limit (dues_of tag.Parts) text fields
values_cases limit tag.Local text fields = outcome limit (dues_of tag.Local) text fields

abbrev Tagged : ℕ → List Tag → List ℕ → List (List ℕ) → Type 0
Tagged limit tags text fields =
    ((t : Tag) × (values : List Value) × (more : List (List ℕ)) × (tag_at tags fields ≡ Ok (t, more)) × (values_at limit t text more ≡ Ok values) × SpellsTagged limit tags t values text fields)
    ⊎ (((w : Word) × (t : Tag) × (more : List (List ℕ)) × (tag_at tags fields ≡ Ok (t, more)) × (values_at limit t text more ≡ Err w) × TagFault limit tags text fields w)
    ⊎ ((w : Word) × (tag_at tags fields ≡ Err w) × TagFault limit tags text fields w))

tagged : (limit : ℕ) (tags : List Tag) → AreLed tags → (text : List ℕ) (fields : List (List ℕ)) → Tagged limit tags text fields
unfolding tag_at
tagged limit tags led text [] = inr (inr (MissingField, refl, refl))
tagged limit tags led text (field ∷ fields) = elim (find_cases UnknownTag tag_word tags field) [
  | inl (t, among, e, q) ↦ elim (values_cases limit t text fields) [
    | inl (values, is, s) ↦ inl (t, values, fields, rw e refl, is, (among, fields, ap (λ x. x ∷ fields) q, s))
    | inr (w, is, f) ↦ inr (inl (w, t, fields, rw e refl, is, inr (t, among, q, f)))
  ]
  | inr e ↦ inr (inr (UnknownTag, rw e refl, inl (refl, λ t among q. let is : find_tag tags field ≡ Ok t = subst (λ (w : List ℕ). find_tag tags w ≡ Ok t) (sym q) (led t among) in absurd cc)))
]

abbrev pub ItemOutcome : ℕ → Dialect → List ℕ → List (List ℕ) → Type 0
ItemOutcome limit d text fields = ((item : Item) × (item_at limit d text fields ≡ Ok item) × SpellsItem limit d item text fields) ⊎ ((w : Word) × (item_at limit d text fields ≡ Err w) × ItemFault limit d text fields w)

plain_outcome : (limit : ℕ) (d : Dialect) (text field : List ℕ) (fields : List (List ℕ)) → is_tag field ≡ true → ItemOutcome limit d text (field ∷ fields)
unfolding item_at plain_at
plain_outcome limit d text field fields b = elim (tagged limit (plain_tags d) (plain_led d) text (field ∷ fields)) [
  | inl (t, values, more, e, is, s) ↦ inl (record { own = None; tag = t; values = values }, rw (b, e, is) refl, s)
  | inr (inl (w, t, more, e, is, f)) ↦ inr (w, rw (b, e, is) refl, inl (b, f))
  | inr (inr (w, e, f)) ↦ inr (w, rw (b, e) refl, inl (b, f))
]

numbered_outcome : (limit : ℕ) (d : Dialect) (text field : List ℕ) (fields : List (List ℕ)) → is_tag field ≡ false → ItemOutcome limit d text (field ∷ fields)
unfolding item_at numbered_at number_at
numbered_outcome limit d text field fields b = elim (number_of-cases limit field) [
  | inl (n, p, h) ↦ elim (tagged limit (numbered_tags d) (numbered_led d) text fields) [
    | inl (t, values, more, e, is, s) ↦ inl (record { own = Some n; tag = t; values = values }, rw (b, p, e, is) refl, (fields, (field, refl, h), s))
    | inr (inl (w, t, more, e, is, f)) ↦ inr (w, rw (b, p, e, is) refl, inr (b, inr (n, fields, (field, refl, h), f)))
    | inr (inr (w, e, f)) ↦ inr (w, rw (b, p, e) refl, inr (b, inr (n, fields, (field, refl, h), f)))
  ]
  | inr (w, p, h) ↦ inr (w, rw (b, p) refl, inr (b, inl h))
]

pub item_outcome : (limit : ℕ) (d : Dialect) (text field : List ℕ) (fields : List (List ℕ)) → ItemOutcome limit d text (field ∷ fields)
item_outcome limit d text field fields = elim (bool_cases (is_tag field)) [
  | inl b ↦ plain_outcome limit d text field fields b
  | inr b ↦ numbered_outcome limit d text field fields b
]
