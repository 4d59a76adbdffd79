-- Lists of parts are within a height where each part is.
use Rattle.std.proofs.Common.{ℕ, ◌≤◌, List, Option, arith}
use Rattle.cm_tree.specs.declared.token.Token.{Token}
use Rattle.cm_tree.specs.Lists.{highest, highest-nil, highest-cons, optional, Every, Further, Listed, Optional, MaybeListed}
use Rattle.cm_tree.specs.Lists as lists
use Rattle.file_grammar.proofs.Spelled.{Within}

module _ {A : Type 0} (h : A → ℕ) (n : ℕ) (P : A → List Token → Type 0) where
  pub every_of : {xs : List A} {u : List Token} → Every (Within h n P) xs u → Within (highest h) n (Every P) xs u
  every_of lists.none = record { spelled = lists.none; low = omega (arith, highest-nil h) }
  every_of (lists.more x xs first others one rest) =
      let all = every_of rest in
      record { spelled = lists.more x xs first others one.spelled all.spelled; low = omega (arith, highest-cons h x xs, one.low, all.low) }

  pub of_every : {xs : List A} {u : List Token} → Every P xs u → highest h xs ≤ n → Every (Within h n P) xs u
  of_every lists.none low = lists.none
  of_every (lists.more x xs first others one rest) low =
      lists.more x xs first others (record { spelled = one; low = omega (arith, highest-cons h x xs) }) (of_every rest (omega (arith, highest-cons h x xs)))

  further_of : {xs : List A} {u : List Token} → Further (Within h n P) xs u → Within (highest h) n (Further P) xs u
  further_of lists.none = record { spelled = lists.none; low = omega (arith, highest-nil h) }
  further_of (lists.more x xs comma first others is one rest) =
      let all = further_of rest in
      record { spelled = lists.more x xs comma first others is one.spelled all.spelled; low = omega (arith, highest-cons h x xs, one.low, all.low) }

  of_further : {xs : List A} {u : List Token} → Further P xs u → highest h xs ≤ n → Further (Within h n P) xs u
  of_further lists.none low = lists.none
  of_further (lists.more x xs comma first others is one rest) low =
      lists.more x xs comma first others is (record { spelled = one; low = omega (arith, highest-cons h x xs) }) (of_further rest (omega (arith, highest-cons h x xs)))

  pub listed_of : {xs : List A} {u : List Token} → Listed (Within h n P) xs u → Within (highest h) n (Listed P) xs u
  listed_of (lists.listed x xs first others one rest) =
      let all = further_of rest in
      record { spelled = lists.listed x xs first others one.spelled all.spelled; low = omega (arith, highest-cons h x xs, one.low, all.low) }

  pub of_listed : {xs : List A} {u : List Token} → Listed P xs u → highest h xs ≤ n → Listed (Within h n P) xs u
  of_listed (lists.listed x xs first others one rest) low =
      lists.listed x xs first others (record { spelled = one; low = omega (arith, highest-cons h x xs) }) (of_further rest (omega (arith, highest-cons h x xs)))

  pub maybe_of : {xs : List A} {u : List Token} → MaybeListed (Within h n P) xs u → Within (highest h) n (MaybeListed P) xs u
  maybe_of lists.none = record { spelled = lists.none; low = omega (arith, highest-nil h) }
  maybe_of (lists.some xs u one) = let all = listed_of one in record { spelled = lists.some xs u all.spelled; low = all.low }

  pub of_maybe : {xs : List A} {u : List Token} → MaybeListed P xs u → highest h xs ≤ n → MaybeListed (Within h n P) xs u
  of_maybe lists.none low = lists.none
  of_maybe (lists.some xs u one) low = lists.some xs u (of_listed one low)

  pub optional_of : {x : Option A} {u : List Token} → Optional (Within h n P) x u → Within (optional h) n (Optional P) x u
  optional_of lists.absent = record { spelled = lists.absent; low = omega arith }
  optional_of (lists.present x u one) = record { spelled = lists.present x u one.spelled; low = one.low }

  pub of_optional : {x : Option A} {u : List Token} → Optional P x u → optional h x ≤ n → Optional (Within h n P) x u
  of_optional lists.absent low = lists.absent
  of_optional (lists.present x u one) low = lists.present x u (record { spelled = one; low = low })
