-- What the amounts of a flow give, slot by slot.
use Rattle.std.proofs.Common.{inl, inr, ◌≡◌, ℕ, ◌+◌, ◌-◌, ◌*◌, ◌≤◌, ◌<◌, Bool, true, false, cond, eqb, List, [], ◌∷◌, refl, sym, ◌∙◌, ap, arith}
use Rattle.std.specs.Prelude.{sum_by, map}
use Rattle.std.specs.List.{AllByRecursion}
use Rattle.std.proofs.lemmas.Bool.{cases_eq, eq-eqb, ne_eqb}
use Rattle.seed_model.specs.Tables.{TableValue}
use Rattle.bound_cert.specs.declared.multipliers.Give.{Give}
use Rattle.seed_model.specs.Keys.{at_key}
use Rattle.bound_cert.specs.Multipliers.{IsGive, charges_at, rewards_at, charges_of, rewards_of, won, lost, won_at, lost_at}
use Rattle.hull_bound.specs.Slots.{Slot, pipe_of, file_node, charge_node, reward_node}
use Rattle.hull_bound.specs.Walks.{Load, give_of, given}
use Rattle.hull_bound.specs.Slots.Slot.{fill, drain, reward, charge, barred, forced}
use Rattle.seed_model.proofs.KeySums.{by_key, sum_below_le, sum_below_plus, sum_le, sum_same, sum_plus, sum_map}
use Rattle.seed_model.specs.declared.node.Node.{Node}
use Rattle.seed_model.specs.Files.{holds}

-- what a slot's user is to the node
abbrev pub IsFit : Node → Slot → Type 0
IsFit node (fill k f z) = Unit {0}
IsFit node (drain k f z) = Unit {0}
IsFit node (reward k f z) = (holds node.inside f ≡ false) × (holds node.outside f ≡ false)
IsFit node (charge k f z) = (holds node.inside f ≡ false) × (holds node.outside f ≡ false)
IsFit node (barred k f z) = holds node.outside f ≡ true
IsFit node (forced k f z) = holds node.inside f ≡ true

abbrev pub user : Slot → ℕ
user (fill k f z) = f
user (drain k f z) = f
user (reward k f z) = f
user (charge k f z) = f
user (barred k f z) = f
user (forced k f z) = f

abbrev pub size : Slot → ℕ
size (fill k f z) = z
size (drain k f z) = z
size (reward k f z) = z
size (charge k f z) = z
size (barred k f z) = z
size (forced k f z) = z

-- where a class is entered, the factor of its half
abbrev pub lead : ℕ → ℕ → (ℕ → Bool) → Slot → ℕ
lead a b test (fill k f z) = cond (test k) (a * z) 0
lead a b test (drain k f z) = cond (test k) (b * z) 0
lead a b test (reward k f z) = 0
lead a b test (charge k f z) = 0
lead a b test (barred k f z) = cond (test k) (a * z) 0
lead a b test (forced k f z) = cond (test k) (b * z) 0

abbrev pub forced_amount : Slot → ℕ → ℕ
forced_amount (fill k f z) x = 0
forced_amount (drain k f z) x = 0
forced_amount (reward k f z) x = 0
forced_amount (charge k f z) x = 0
forced_amount (barred k f z) x = 0
forced_amount (forced k f z) x = x

abbrev pub forced_of : ℕ → Slot → ℕ → ℕ
forced_of c (fill k f z) x = 0
forced_of c (drain k f z) x = 0
forced_of c (reward k f z) x = 0
forced_of c (charge k f z) x = 0
forced_of c (barred k f z) x = 0
forced_of c (forced k f z) x = cond (eqb k c) x 0

abbrev pub rest_amount : ℕ → Slot → ℕ → ℕ
rest_amount p (fill k f z) x = p * z - x
rest_amount p (drain k f z) x = 0
rest_amount p (reward k f z) x = 0
rest_amount p (charge k f z) x = 0
rest_amount p (barred k f z) x = 0
rest_amount p (forced k f z) x = 0

abbrev amount_if : Bool → ℕ → ℕ
amount_if b x = cond b x 0

eqb_same : (a b c d : ℕ) → (a ≡ b → c ≡ d) → (c ≡ d → a ≡ b) → eqb a b ≡ eqb c d
eqb_same a b c d there back = elim (cases_eq a b) [
  | inl e ↦ eq-eqb a b e ∙ sym (eq-eqb c d (there e))
  | inr n ↦ ne_eqb a b n ∙ sym (ne_eqb c d (λ e. n (back e)))
]

abbrev pub out_load : ℕ → ℕ → ℕ → ℕ → Slot → ℕ → ℕ
out_load n p q v s x = cond (eqb (pipe_of n p q s).from v) x 0

abbrev pub into_load : ℕ → ℕ → ℕ → ℕ → Slot → ℕ → ℕ
into_load n p q v s x = cond (eqb (pipe_of n p q s).to v) x 0

same_charge : (n j k : ℕ) → eqb (charge_node n j) (charge_node n k) ≡ eqb j k
same_charge n j k = eqb_same (charge_node n j) (charge_node n k) j k (λ e. omega (arith, e)) (λ e. omega (arith, e))

same_reward : (n j k : ℕ) → eqb (reward_node n j) (reward_node n k) ≡ eqb j k
same_reward n j k = eqb_same (reward_node n j) (reward_node n k) j k (λ e. omega (arith, e)) (λ e. omega (arith, e))

same_file : (f g : ℕ) → eqb (file_node f) (file_node g) ≡ eqb f g
same_file f g = eqb_same (file_node f) (file_node g) f g (λ e. omega (arith, e)) (λ e. omega (arith, e))

none_if : (b : Bool) (x : ℕ) → b ≡ false → cond b x 0 ≡ 0
none_if b x e = rw e refl

apart : (a b x : ℕ) → (a ≡ b → ⊥) → cond (eqb a b) x 0 ≡ 0
apart a b x h = none_if (eqb a b) x (ne_eqb a b h)

zero_if : (b : Bool) → ◌≡◌ {A = ℕ} (cond b 0 0) 0
zero_if true = refl
zero_if false = refl

zero_lead : (b : Bool) (z : ℕ) → cond b (0 * z) 0 ≡ 0
zero_lead true z = omega arith
zero_lead false z = refl

like : (b c : Bool) (x : ℕ) → b ≡ c → cond b x 0 ≡ cond c x 0
like b c x e = ap (λ (d : Bool). cond d x 0) e

-- at the node of a class's charges
charge_in : (n p q c : ℕ) (s : Slot) (x : ℕ) → user s < n
    → cond (eqb (give_of p s x).class c) (give_of p s x).charge 0 ≡ into_load n p q (charge_node n c) s x + forced_of c s x
charge_in n p q c (fill k f z) x h = omega (arith, zero_if (eqb k c), apart (reward_node n k) (charge_node n c) x (λ e. omega (arith, e)))
charge_in n p q c (drain k f z) x h = omega (arith, zero_if (eqb k c), apart 1 (charge_node n c) x (λ e. omega (arith, e)))
charge_in n p q c (reward k f z) x h = omega (arith, zero_if (eqb k c), apart (file_node f) (charge_node n c) x (λ e. omega (arith, e, h)))
charge_in n p q c (charge k f z) x h = omega (arith, like (eqb (charge_node n k) (charge_node n c)) (eqb k c) x (same_charge n k c))
charge_in n p q c (barred k f z) x h = omega (arith, zero_if (eqb k c), apart 1 (charge_node n c) x (λ e. omega (arith, e)))
charge_in n p q c (forced k f z) x h = omega (arith, apart 1 (charge_node n c) x (λ e. omega (arith, e)))

most_if : (b : Bool) (x y : ℕ) → x ≤ y → cond b x 0 ≤ cond b y 0
most_if true x y h = h
most_if false x y h = omega arith

charge_out : (n p q c : ℕ) (s : Slot) (x : ℕ) → user s < n → x ≤ (pipe_of n p q s).room
    → out_load n p q (charge_node n c) s x + forced_of c s x ≤ lead 0 q (λ k. eqb k c) s
charge_out n p q c (fill k f z) x h l = omega (arith, apart 0 (charge_node n c) x (λ e. omega (arith, e)))
charge_out n p q c (drain k f z) x h l = omega (arith, like (eqb (charge_node n k) (charge_node n c)) (eqb k c) x (same_charge n k c), most_if (eqb k c) x (q * z) l)
charge_out n p q c (reward k f z) x h l = omega (arith, apart (reward_node n k) (charge_node n c) x (λ e. omega (arith, e)))
charge_out n p q c (charge k f z) x h l = omega (arith, apart (file_node f) (charge_node n c) x (λ e. omega (arith, e, h)))
charge_out n p q c (barred k f z) x h l = omega (arith, apart 0 (charge_node n c) x (λ e. omega (arith, e)))
charge_out n p q c (forced k f z) x h l = omega (arith, apart 0 (charge_node n c) x (λ e. omega (arith, e)), most_if (eqb k c) x (q * z) l)

rest_if : (b : Bool) (m x : ℕ) → x ≤ m → cond b (m - x) 0 + cond b x 0 ≡ cond b m 0
rest_if true m x h = omega arith
rest_if false m x h = refl

-- at the node of a class's rewards
reward_kept : (n p q c : ℕ) (s : Slot) (x : ℕ) → user s < n → x ≤ (pipe_of n p q s).room
    → cond (eqb (give_of p s x).class c) (give_of p s x).reward 0 + into_load n p q (reward_node n c) s x
    ≡ lead p 0 (λ k. eqb k c) s + out_load n p q (reward_node n c) s x
reward_kept n p q c (fill k f z) x h l = omega (arith, rest_if (eqb k c) (p * z) x l, like (eqb (reward_node n k) (reward_node n c)) (eqb k c) x (same_reward n k c), apart 0 (reward_node n c) x (λ e. omega (arith, e)))
reward_kept n p q c (drain k f z) x h l = omega (arith, zero_lead (eqb k c) z, zero_if (eqb k c), apart 1 (reward_node n c) x (λ e. omega (arith, e)), apart (charge_node n k) (reward_node n c) x (λ e. omega (arith, e)))
reward_kept n p q c (reward k f z) x h l = omega (arith, apart (file_node f) (reward_node n c) x (λ e. omega (arith, e, h)), like (eqb (reward_node n k) (reward_node n c)) (eqb k c) x (same_reward n k c))
reward_kept n p q c (charge k f z) x h l = omega (arith, zero_if (eqb k c), apart (charge_node n k) (reward_node n c) x (λ e. omega (arith, e)), apart (file_node f) (reward_node n c) x (λ e. omega (arith, e, h)))
reward_kept n p q c (barred k f z) x h l = omega (arith, apart 1 (reward_node n c) x (λ e. omega (arith, e)), apart 0 (reward_node n c) x (λ e. omega (arith, e)))
reward_kept n p q c (forced k f z) x h l = omega (arith, zero_lead (eqb k c) z, zero_if (eqb k c), apart 1 (reward_node n c) x (λ e. omega (arith, e)), apart 0 (reward_node n c) x (λ e. omega (arith, e)))

-- at the node of a file that is not outside
file_rewards : (n p q g : ℕ) (node : Node) (s : Slot) (x : ℕ) → g < n → IsFit node s → holds node.outside g ≡ false
    → cond (eqb (give_of p s x).file g) (give_of p s x).reward 0 ≡ cond (eqb (user s) g) (rest_amount p s x) 0 + into_load n p q (file_node g) s x
file_rewards n p q g node (fill k f z) x h fit out = omega (arith, apart (reward_node n k) (file_node g) x (λ e. omega (arith, e, h)))
file_rewards n p q g node (drain k f z) x h fit out = omega (arith, apart 1 (file_node g) x (λ e. omega (arith, e)))
file_rewards n p q g node (reward k f z) x h fit out = omega (arith, zero_if (eqb f g), like (eqb (file_node f) (file_node g)) (eqb f g) x (same_file f g))
file_rewards n p q g node (charge k f z) x h fit out = omega (arith, apart (charge_node n k) (file_node g) x (λ e. omega (arith, e, h)))
file_rewards n p q g node (barred k f z) x h fit out =
    omega (arith, zero_if (eqb f g), apart 1 (file_node g) x (λ e. omega (arith, e)), apart f g (p * z) (λ e. let same = ap (holds node.outside) e in cc (same, fit, out)))
file_rewards n p q g node (forced k f z) x h fit out = omega (arith, apart 1 (file_node g) x (λ e. omega (arith, e)))

file_charges : (n p q g : ℕ) (s : Slot) (x : ℕ) → g < n
    → cond (eqb (give_of p s x).file g) (give_of p s x).charge 0 ≡ cond (eqb (user s) g) (forced_amount s x) 0 + out_load n p q (file_node g) s x
file_charges n p q g (fill k f z) x h = omega (arith, apart 0 (file_node g) x (λ e. omega (arith, e)))
file_charges n p q g (drain k f z) x h = omega (arith, apart (charge_node n k) (file_node g) x (λ e. omega (arith, e, h)))
file_charges n p q g (reward k f z) x h = omega (arith, apart (reward_node n k) (file_node g) x (λ e. omega (arith, e, h)))
file_charges n p q g (charge k f z) x h = omega (arith, zero_if (eqb f g), like (eqb (file_node f) (file_node g)) (eqb f g) x (same_file f g))
file_charges n p q g (barred k f z) x h = omega (arith, apart 0 (file_node g) x (λ e. omega (arith, e)))
file_charges n p q g (forced k f z) x h = omega (arith, apart 0 (file_node g) x (λ e. omega (arith, e)))

-- only files inside are forced
file_forced : (g : ℕ) (node : Node) (s : Slot) (x : ℕ) → IsFit node s → holds node.inside g ≡ false → cond (eqb (user s) g) (forced_amount s x) 0 ≡ 0
file_forced g node (fill k f z) x fit out = zero_if (eqb f g)
file_forced g node (drain k f z) x fit out = zero_if (eqb f g)
file_forced g node (reward k f z) x fit out = zero_if (eqb f g)
file_forced g node (charge k f z) x fit out = zero_if (eqb f g)
file_forced g node (barred k f z) x fit out = zero_if (eqb f g)
file_forced g node (forced k f z) x fit out = apart f g x (λ e. let same = ap (holds node.inside) e in cc (same, fit, out))

-- at the source
source_out : (n p q : ℕ) (s : Slot) (x : ℕ) → x ≤ (pipe_of n p q s).room
    → out_load n p q 0 s x + rest_amount p s x ≤ lead p 0 (λ _. true) s + forced_amount s x
source_out n p q (fill k f z) x l = omega arith
source_out n p q (drain k f z) x l = omega (arith, apart (charge_node n k) 0 x (λ e. omega (arith, e)))
source_out n p q (reward k f z) x l = omega (arith, apart (reward_node n k) 0 x (λ e. omega (arith, e)))
source_out n p q (charge k f z) x l = omega (arith, apart (file_node f) 0 x (λ e. omega (arith, e)))
source_out n p q (barred k f z) x l = omega arith
source_out n p q (forced k f z) x l = omega arith

-- a slot of the node's net, and its pipe's amount is within the room
pub record IsLoad (table : TableValue) (p q : ℕ) (node : Node) (l : Load) : Type 0 where
  pub give : IsGive table (given p l)
  pub file : user l.slot < table.files
  pub fit : IsFit node l.slot
  pub within : l.amount ≤ (pipe_of table.files p q l.slot).room

abbrev pub out_sum : ℕ → ℕ → ℕ → ℕ → List Load → ℕ
out_sum n p q v ls = sum_by (λ (l : Load). out_load n p q v l.slot l.amount) ls

abbrev pub into_sum : ℕ → ℕ → ℕ → ℕ → List Load → ℕ
into_sum n p q v ls = sum_by (λ (l : Load). into_load n p q v l.slot l.amount) ls

abbrev pub lead_sum : ℕ → ℕ → (ℕ → Bool) → List Load → ℕ
lead_sum a b test ls = sum_by (λ (l : Load). lead a b test l.slot) ls

module _ (table : TableValue) (p q : ℕ) (node : Node) (ls : List Load)
    (good : AllByRecursion (IsLoad table p q node) ls) where
  pub loads_charges : (c : ℕ) → out_sum table.files p q (charge_node table.files c) ls ≡ into_sum table.files p q (charge_node table.files c) ls
      → charges_of (map (given p) ls) c ≤ lead_sum 0 q (λ k. eqb k c) ls
  loads_charges c kept =
      let n : ℕ = table.files in
      let v : ℕ = charge_node n c in
      let into = λ (l : Load). into_load n p q v l.slot l.amount in
      let out = λ (l : Load). out_load n p q v l.slot l.amount in
      let must = λ (l : Load). forced_of c l.slot l.amount in
      let lead_of = λ (l : Load). lead 0 q (λ k. eqb k c) l.slot in
      let here = λ (l : Load). at_key (λ (g : Give). g.class) (λ (g : Give). g.charge) c (given p l) in
      let e1 = sum_map (at_key (λ (g : Give). g.class) (λ (g : Give). g.charge) c) (given p) ls in
      let e2 = sum_same (IsLoad table p q node) here (λ l. into l + must l) ls (λ l h. charge_in n p q c l.slot l.amount h.file) good in
      let e3 = sum_le (IsLoad table p q node) (λ l. out l + must l) lead_of ls (λ l h. charge_out n p q c l.slot l.amount h.file h.within) good in
      omega (arith, kept, e1, e2, e3, sum_plus into must ls, sum_plus out must ls)

  pub loads_rewards : (c : ℕ) → out_sum table.files p q (reward_node table.files c) ls ≡ into_sum table.files p q (reward_node table.files c) ls
      → rewards_of (map (given p) ls) c ≡ lead_sum p 0 (λ k. eqb k c) ls
  loads_rewards c kept =
      let n : ℕ = table.files in
      let v : ℕ = reward_node n c in
      let into = λ (l : Load). into_load n p q v l.slot l.amount in
      let out = λ (l : Load). out_load n p q v l.slot l.amount in
      let lead_of = λ (l : Load). lead p 0 (λ k. eqb k c) l.slot in
      let here = λ (l : Load). at_key (λ (g : Give). g.class) (λ (g : Give). g.reward) c (given p l) in
      let e1 = sum_map (at_key (λ (g : Give). g.class) (λ (g : Give). g.reward) c) (given p) ls in
      let e2 = sum_same (IsLoad table p q node) (λ l. here l + into l) (λ l. lead_of l + out l) ls (λ l h. reward_kept n p q c l.slot l.amount h.file h.within) good in
      omega (arith, kept, e1, e2, sum_plus here into ls, sum_plus lead_of out ls)

  -- at each file
  forced_at : ℕ → ℕ
  forced_at f = sum_by (at_key (λ (l : Load). user l.slot) (λ (l : Load). forced_amount l.slot l.amount) f) ls

  rest_at : ℕ → ℕ
  rest_at f = sum_by (at_key (λ (l : Load). user l.slot) (λ (l : Load). rest_amount p l.slot l.amount) f) ls

  rewards_here : (f : ℕ) → f < table.files → holds node.outside f ≡ false → rewards_at (map (given p) ls) f ≡ rest_at f + into_sum table.files p q (file_node f) ls
  unfolding rest_at
  rewards_here f h out =
      let n : ℕ = table.files in
      let into = λ (l : Load). into_load n p q (file_node f) l.slot l.amount in
      let rest = at_key (λ (l : Load). user l.slot) (λ (l : Load). rest_amount p l.slot l.amount) f in
      let here = λ (l : Load). at_key (λ (g : Give). g.file) (λ (g : Give). g.reward) f (given p l) in
      let e1 = sum_map (at_key (λ (g : Give). g.file) (λ (g : Give). g.reward) f) (given p) ls in
      let e2 = sum_same (IsLoad table p q node) here (λ l. rest l + into l) ls (λ l g. file_rewards n p q f node l.slot l.amount h g.fit out) good in
      omega (arith, e1, e2, sum_plus rest into ls)

  charges_here : (f : ℕ) → f < table.files → charges_at (map (given p) ls) f ≡ forced_at f + out_sum table.files p q (file_node f) ls
  unfolding forced_at
  charges_here f h =
      let n : ℕ = table.files in
      let out = λ (l : Load). out_load n p q (file_node f) l.slot l.amount in
      let must = at_key (λ (l : Load). user l.slot) (λ (l : Load). forced_amount l.slot l.amount) f in
      let here = λ (l : Load). at_key (λ (g : Give). g.file) (λ (g : Give). g.charge) f (given p l) in
      let e1 = sum_map (at_key (λ (g : Give). g.file) (λ (g : Give). g.charge) f) (given p) ls in
      let e2 = sum_same (IsLoad table p q node) here (λ l. must l + out l) ls (λ l g. file_charges n p q f l.slot l.amount h) good in
      omega (arith, e1, e2, sum_plus must out ls)

  forced_here : (f : ℕ) → holds node.inside f ≡ false → forced_at f ≡ 0
  unfolding forced_at
  forced_here f out =
      let must = at_key (λ (l : Load). user l.slot) (λ (l : Load). forced_amount l.slot l.amount) f in
      sum_same (IsLoad table p q node) must (λ _. 0) ls (λ l g. file_forced f node l.slot l.amount g.fit out) good ∙ none ls
    where
      none : (xs : List Load) → sum_by (λ (l : Load). 0) xs ≡ 0
      none [] = refl
      none (l ∷ xs) = none xs ∙ refl

  file_part : (i o : Bool) (c r must rest m : ℕ) → (i ≡ true → o ≡ false) → (o ≡ false → r ≡ rest + m) → c ≡ must + m → (i ≡ false → must ≡ 0)
      → cond i r (cond o 0 (r - c)) + must ≤ cond i c 0 + rest
  file_part i o c r must rest m one rewards charges none = grind arith

  file_parts : ((f : ℕ) → f < table.files → holds node.inside f ≡ true → holds node.outside f ≡ false)
      → ((f : ℕ) → f < table.files → out_sum table.files p q (file_node f) ls ≡ into_sum table.files p q (file_node f) ls)
      → (f : ℕ) → f < table.files → lost_at node (map (given p) ls) f + forced_at f ≤ won_at node (map (given p) ls) f + rest_at f
  file_parts one kept f h =
      file_part (holds node.inside f) (holds node.outside f) (charges_at (map (given p) ls) f) (rewards_at (map (given p) ls) f) (forced_at f) (rest_at f) (into_sum table.files p q (file_node f) ls)
      (one f h) (rewards_here f h) (charges_here f h ∙ ap (λ (m : ℕ). forced_at f + m) (kept f h)) (forced_here f)

  users_below : (xs : List Load) → AllByRecursion (IsLoad table p q node) xs → AllByRecursion (λ (l : Load). user l.slot < table.files) xs
  users_below [] all = tt
  users_below (l ∷ xs) all = (all.0.file, users_below xs all.1)

  -- what is won less what is lost is at least what leaves the source less all rewards
  pub loads_value : ((f : ℕ) → f < table.files → holds node.inside f ≡ true → holds node.outside f ≡ false)
      → ((f : ℕ) → f < table.files → out_sum table.files p q (file_node f) ls ≡ into_sum table.files p q (file_node f) ls)
      → lost table.files node (map (given p) ls) + out_sum table.files p q 0 ls ≤ won table.files node (map (given p) ls) + lead_sum p 0 (λ _. true) ls
  unfolding forced_at rest_at
  loads_value one kept =
      let n : ℕ = table.files in
      let gs : List Give = map (given p) ls in
      let must = λ (l : Load). forced_amount l.slot l.amount in
      let rest = λ (l : Load). rest_amount p l.slot l.amount in
      let out = λ (l : Load). out_load n p q 0 l.slot l.amount in
      let lead_of = λ (l : Load). lead p 0 (λ _. true) l.slot in
      let below = users_below ls good in
      let k1 = by_key (λ (l : Load). user l.slot) must n ls below in
      let k2 = by_key (λ (l : Load). user l.slot) rest n ls below in
      let le = sum_below_le (λ f. lost_at node gs f + forced_at f) (λ f. won_at node gs f + rest_at f) n (file_parts one kept) in
      let src = sum_le (IsLoad table p q node) (λ l. out l + rest l) (λ l. lead_of l + must l) ls (λ l g. source_out n p q l.slot l.amount g.within) good in
      omega (arith, k1, k2, le, src, sum_below_plus (lost_at node gs) forced_at n, sum_below_plus (won_at node gs) rest_at n, sum_plus out rest ls, sum_plus lead_of must ls)
