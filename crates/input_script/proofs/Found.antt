-- What was read where no rule failed.
use Rattle.std.proofs.Common.{◌≡◌, List, ◌∷◌, ◌++◌, Bool, true, false, if◌then◌else◌, Option, Some, None, Result, Ok, Err, refl, sym, ap}
use Rattle.cm_base.specs.declared.forms.FormFault.{FormFault}
use Rattle.json_value.specs.Form.{or_fault, after, followed, joined}

pub record Went {X Y : Type 0} (read : Result X FormFault) (go : X → Result Y FormFault) (y : Y) : Type 0 where
  pub x : X
  pub first : read ≡ Ok x
  pub gives : go x ≡ Ok y

pub went : {X Y : Type 0} (read : Result X FormFault) (go : X → Result Y FormFault) (y : Y) → after read go ≡ Ok y → Went read go y
went (Ok x) go y h = record { x = x; first = refl; gives = h }
went (Err fault) go y h = absurd (cc)

abbrev value_or : {X : Type 0} → X → Result X FormFault → X
value_or x (Ok found) = found
value_or x (Err fault) = x

pub ok_is : {X : Type 0} (x y : X) → (let one : Result X FormFault = Ok x in one) ≡ Ok y → x ≡ y
ok_is x y h = ap (value_or x) h

pub there : {X : Type 0} (fault : FormFault) (found : Option X) (x : X) → or_fault fault found ≡ Ok x → found ≡ Some x
there fault None x h = absurd (cc)
there fault (Some y) x h = ap Some (ok_is y x h)

-- a test that passed
pub record Passed {X : Type 0} (test : Bool) (read : Result X FormFault) (x : X) : Type 0 where
  pub is : test ≡ true
  pub gives : read ≡ Ok x

pub passed : {X : Type 0} (test : Bool) (read : Result X FormFault) (fault : FormFault) (x : X) → (if test then read else Err fault) ≡ Ok x → Passed test read x
passed true read fault x h = record { is = refl; gives = h }
passed false read fault x h = absurd (cc)

pub not_passed : {X : Type 0} (test : Bool) (read : Result X FormFault) (fault : FormFault) (x : X) → (if test then Err fault else read) ≡ Ok x → (test ≡ false) × (read ≡ Ok x)
not_passed true read fault x h = absurd (cc)
not_passed false read fault x h = (refl, h)

pub record Both {X : Type 0} (first : Result X FormFault) (others : Result (List X) FormFault) (all : List X) : Type 0 where
  pub head : X
  pub tail : List X
  pub one : first ≡ Ok head
  pub rest : others ≡ Ok tail
  pub whole : all ≡ head ∷ tail

pub both : {X : Type 0} (first : Result X FormFault) (others : Result (List X) FormFault) (all : List X) → followed first others ≡ Ok all → Both first others all
both (Ok head) (Ok tail) all h = record { head = head; tail = tail; one = refl; rest = refl; whole = sym (ok_is (head ∷ tail) all h) }
both (Ok head) (Err fault) all h = absurd (cc)
both (Err fault) others all h = absurd (cc)

pub record Pieces {X : Type 0} (first others : Result (List X) FormFault) (all : List X) : Type 0 where
  pub front : List X
  pub back : List X
  pub one : first ≡ Ok front
  pub rest : others ≡ Ok back
  pub whole : all ≡ front ++ back

pub pieces : {X : Type 0} (first others : Result (List X) FormFault) (all : List X) → joined first others ≡ Ok all → Pieces first others all
pieces (Ok front) (Ok back) all h = record { front = front; back = back; one = refl; rest = refl; whole = sym (ok_is (front ++ back) all h) }
pieces (Ok front) (Err fault) all h = absurd (cc)
pieces (Err fault) others all h = absurd (cc)
