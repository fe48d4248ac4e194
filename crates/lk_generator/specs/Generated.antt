-- The export file that a seed gives: an axiom p, a proposition, and behind it theorems that each state p -> p. A theorem is
-- proved by the function that gives its argument, or by an earlier theorem that a sequence of numbers draws.
use Rattle.std.specs.Prelude.{ℕ, zero, suc, ◌+◌, ◌-◌, ◌*◌, ◌/◌, ◌%◌, ◌^◌, List, [], ◌++◌, codes, decimal, nat_eq, if◌then◌else◌}

-- the number behind x in the sequence
abbrev pub next : ℕ → ℕ
next x = (1103515245 * x + 12345) % 2 ^ 31

-- number i of the sequence that begins with the seed
abbrev pub number_at : ℕ → ℕ → ℕ
number_at seed zero = seed
number_at seed (suc i) = next (number_at seed i)

-- the unit by which unit i is proved; 0 where it is by expression 4
abbrev pub cited_unit : ℕ → ℕ → ℕ
cited_unit seed i = (number_at seed i / 65536) % i

-- how many expressions a unit has of its own that is proved by unit j
abbrev pub expressions_of : ℕ → ℕ
expressions_of j = if nat_eq j 0 then 0 else 3

-- the least expression number that units 0 to i leave unused
abbrev pub free_expression : ℕ → ℕ → ℕ
free_expression seed zero = 5
free_expression seed (suc i) = free_expression seed i + expressions_of (cited_unit seed (suc i))

-- the version, the axiom p, and expression 4, the function that gives its argument
abbrev pub beginning : List ℕ
beginning = codes "2.0.0\n1 #NS 0 p\n2 #NS 0 t\n0 #ES 0\n1 #EC 1\n2 #EP #BD 0 1 1\n3 #EV 0\n4 #EL #BD 0 1 3\n#AX 1 0\n"

-- unit i is called t.i
unfoldable pub name_line : ℕ → List ℕ
name_line i = decimal (i + 2) ++ codes " #NI 2 " ++ decimal i ++ codes "\n"

-- unit i is a theorem that expression e proves
unfoldable pub theorem_line : ℕ → ℕ → List ℕ
theorem_line i e = codes "#THM " ++ decimal (i + 2) ++ codes " 2 " ++ decimal e ++ codes "\n"

-- expressions e to e + 2: unit j, applied to a proof of p, as a function of that proof
unfoldable pub proof_lines : ℕ → ℕ → List ℕ
proof_lines j e = decimal e ++ codes " #EC " ++ decimal (j + 2) ++ codes "\n" ++ decimal (e + 1) ++ codes " #EA " ++ decimal e ++ codes " 3\n" ++ decimal (e + 2) ++ codes " #EL #BD 0 1 " ++ decimal (e + 1) ++ codes "\n"

-- unit i, proved by unit j, from expression e on
abbrev pub unit_lines : ℕ → ℕ → ℕ → List ℕ
unit_lines i j e = name_line i ++ (if nat_eq j 0 then theorem_line i 4 else proof_lines j e ++ theorem_line i (e + 2))

-- units 1 to i
abbrev pub units_to : ℕ → ℕ → List ℕ
units_to seed zero = []
units_to seed (suc i) = units_to seed i ++ unit_lines (suc i) (cited_unit seed (suc i)) (free_expression seed i)

-- a file of so many units, of one at least
abbrev pub file_of : ℕ → ℕ → List ℕ
file_of units seed = beginning ++ units_to seed (units - 1)
