-- Sums that are held at the greatest number of 64 bits.
use Rattle.std.specs.Prelude.{ℕ, suc, ◌≡◌, refl, ◌+◌, ◌-◌, ◌*◌, ◌<◌, ◌≤◌, ◌^◌, min, max, if◌then◌else◌, List, [], ◌∷◌, length, sum, sum_by, None, slice_index, slice_index_or}
use Rattle.std.proofs.Common.{arith, ap, sym, ◌∙◌, zero-add}
use Rattle.std.proofs.lemmas.List.Sums.{sum_by-cons}
use Rattle.cm_base.specs.Parts.{is_input}
use Rattle.cm_base.specs.declared.host.HostEnd.{HostEnd}
use Rattle.cm_core.specs.declared.flat.Chain.{Chain}
use Rattle.cm_core.specs.declared.flat.Leaf.{Leaf}
use Rattle.cm_core.specs.Linked.{Linked, host_ends, no_end_id}
use Rattle.cm_core.specs.Measures.{leaf_size, leaves_size, written_size, host_size, expanded_size}
use Rattle.cm_core.specs.Sizes.{scalars}
use Rattle.memory_layout.specs.Held.{held}
use Rattle.memory_layout.proofs.Alike.{joined, behind}
use Rattle.memory_layout.proofs.Counts.{held_product}

-- one item more
pub total_step : {T : Type 0} (f : T → ℕ) (x : T) (rest others : List T) (sum size next whole : ℕ) → rest ≡ x ∷ others → size ≡ held (f x) → next ≡ min (sum + size) (2 ^ 64 - 1) →
    held (sum + sum_by f rest) ≡ whole → held (next + sum_by f others) ≡ whole
total_step {T} f x rest others sum size next whole is sized now before =
    let more : sum_by f rest ≡ f x + sum_by f others = ap (λ (l : List T). sum_by f l) is ∙ sum_by-cons f x others in
    omega (arith, more, sized, now, before)

-- the leaves from this number on, where the size of each is held
pub leaves_sum : (l : Linked) (i : ℕ) (leaves : List Leaf) (sizes : List ℕ) → length sizes ≡ length leaves → ((j : ℕ) → j < length leaves → slice_index sizes j ≡ held (leaf_size l (i + j))) →
    held (sum sizes) ≡ held (leaves_size l i leaves)
leaves_sum l i [] [] long are = refl
leaves_sum l i [] (n ∷ ns) long are = absurd (omega (arith, long))
leaves_sum l i (x ∷ xs) [] long are = absurd (omega (arith, long))
leaves_sum l i (x ∷ xs) (n ∷ ns) long are =
    let same : i + 0 ≡ i = omega arith in
    let first : n ≡ held (leaf_size l i) = are 0 (omega arith) ∙ ap (λ (k : ℕ). held (leaf_size l k)) same in
    let rest : held (sum ns) ≡ held (leaves_size l (i + 1) xs) =
    leaves_sum l (i + 1) xs ns (omega (arith, long))
    (λ j below. are (suc j) (omega (arith, below)) ∙ ap (λ (k : ℕ). held (leaf_size l k)) (omega arith)) in
    omega (arith, first, rest, sum_by-cons (λ (k : ℕ). k) n ns)

-- one endpoint of the host more
pub host_step : (l : Linked) (all rest others : List HostEnd) (end : HostEnd) (size own next whole : ℕ) → rest ≡ end ∷ others → length rest ≤ length all →
    own ≡ held (1 + scalars end.shape
    + (if is_input end.flow then written_size l (record { leaf = None; end = slice_index_or (host_ends l) (length all - length rest) no_end_id }) else 0)) →
    next ≡ min (size + own) (2 ^ 64 - 1) → held (size + host_size l (length all - length rest) rest) ≡ whole →
    held (next + host_size l (length all - length others) others) ≡ whole
host_step l all rest others end size own next whole is few sized now before =
    let longer : length rest ≡ length others + 1 = ap length is ∙ omega arith in
    let later : length all - length others ≡ length all - length rest + 1 = omega (arith, few, longer) in
    let more : host_size l (length all - length rest) rest ≡ 1 + scalars end.shape
    + (if is_input end.flow then written_size l (record { leaf = None; end = slice_index_or (host_ends l) (length all - length rest) no_end_id }) else 0)
    + host_size l (length all - length rest + 1) others = ap (λ (ends : List HostEnd). host_size l (length all - length rest) ends) is in
    let same : host_size l (length all - length others) others ≡ host_size l (length all - length rest + 1) others = ap (λ (k : ℕ). host_size l k others) later in
    omega (arith, more, same, sized, now, before)

held_twice : (n : ℕ) → held (held n) ≡ held n
held_twice n = omega arith

turned : (m n : ℕ) → m * n ≡ n * m
turned m n = omega arith

pub held_both : (m n : ℕ) → held (held m * held n) ≡ held (m * n)
held_both m n =
    held_product (held m) n (2 ^ 64 - 1) ∙ ap held (turned (held m) n) ∙ held_product n m (2 ^ 64 - 1) ∙ ap held (turned n m)

around : (n k : ℕ) → 64 * n * (1 + k) ≡ (1 + k) * 64 * n
around n k = omega arith

-- the cost by numbers that are held
held_cost : (e k : ℕ) → held (64 * held e * (1 + held k)) ≡ held (64 * e * (1 + k))
held_cost e k =
    let one : held (1 + held k) ≡ held (1 + k) = omega arith in
    sym (held_product (64 * held e) (1 + held k) (2 ^ 64 - 1)) ∙ ap (λ (n : ℕ). held (64 * held e * n)) one ∙ held_product (64 * held e) (1 + k) (2 ^ 64 - 1)
    ∙ ap held (around (held e) k) ∙ held_product ((1 + k) * 64) e (2 ^ 64 - 1) ∙ ap held (sym (around e k))

times : (k p whole : ℕ) → p ≡ held whole → held (k * p) ≡ held (k * whole)
times k p whole is = ap (λ (n : ℕ). held (k * n)) is ∙ held_product k whole (2 ^ 64 - 1)

once : (p whole : ℕ) → p ≡ held whole → held p ≡ held whole
once p whole is = ap held is ∙ held_twice whole

-- the same where the numbers have names
pub cost_by : (e k size splits : ℕ) → e ≡ held size → k ≡ held splits → held (64 * e * (1 + k)) ≡ held (64 * size * (1 + splits))
cost_by e k size splits e_is k_is = ap (λ (n : ℕ). held (64 * n * (1 + k))) e_is ∙ ap (λ (n : ℕ). held (64 * held size * (1 + n))) k_is ∙ held_cost size splits

pub bytes_by : (p e s z r parts ends states size rings : ℕ) → p ≡ held parts → e ≡ held ends → s ≡ held states → z ≡ held size → r ≡ held rings →
    held (4096 + 64 * p + 16 * e + s + 16 * z + r) ≡ held (4096 + 64 * parts + 16 * ends + states + 16 * size + rings)
bytes_by p e s z r parts ends states size rings p_is e_is s_is z_is r_is =
    joined _ _ _ _
    (joined _ _ _ _ (joined _ _ _ _ (joined _ _ _ _ (behind 4096 _ _ (times 64 p parts p_is)) (times 16 e ends e_is)) (once s states s_is)) (times 16 z size z_is))
    (once r rings r_is)

-- the leaves, the chains and the endpoints of the host together
pub expanded_is : (l : Linked) (sizes : List ℕ) (leaves chains host two three whole : ℕ) → length sizes ≡ length l.flat.leaves →
    ((j : ℕ) → j < length l.flat.leaves → slice_index sizes j ≡ held (leaf_size l j)) → leaves ≡ held (sum sizes) →
    chains ≡ held (sum_by (λ (chain : Chain). scalars chain.shape) l.flat.chains) → host ≡ held (host_size l 0 l.program.host) → two ≡ min (leaves + chains) (2 ^ 64 - 1) →
    three ≡ min (two + host) (2 ^ 64 - 1) → whole ≡ max three 1 → whole ≡ held (expanded_size l)
expanded_is l sizes leaves chains host two three whole long are leaves_is chains_is host_is two_is three_is whole_is =
    let all : held (sum sizes) ≡ held (leaves_size l 0 l.flat.leaves) =
    leaves_sum l 0 l.flat.leaves sizes long (λ j below. are j below ∙ ap (λ (k : ℕ). held (leaf_size l k)) (sym (zero-add j))) in
    together _ _ _ leaves chains host two three whole (leaves_is ∙ all) chains_is host_is two_is three_is whole_is
  where
    together : (a b c leaves chains host two three whole : ℕ) → leaves ≡ held a → chains ≡ held b → host ≡ held c → two ≡ min (leaves + chains) (2 ^ 64 - 1) →
        three ≡ min (two + host) (2 ^ 64 - 1) → whole ≡ max three 1 → whole ≡ held (max 1 (a + b + c))
    together a b c leaves chains host two three whole la lb lc ltwo lthree lwhole = omega arith
