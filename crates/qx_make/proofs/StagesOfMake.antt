-- The stages of the maker: the old areas, the length, and the new volume.
use Rattle.std.proofs.Common.{◌≡◌, ℕ, true, false, Result, Ok, IsErr, List, [], ◌∷◌, ◌++◌, inl, inr, refl, ap, sym, ◌∙◌, subst, arith, append_assoc}
use Rattle.std.specs.Prelude.{Contains, IsTrue}
use Rattle.std.proofs.lemmas.List.Elements.{Contains-append_left, Contains-append_right}
use Rattle.qx_fields.specs.declared.order.Order.{Order}
use Rattle.qx_geom.specs.declared.geometry.Geometry.{Geometry}
use Rattle.qx_outside.specs.Calls.{Did, MayDo}
use Rattle.qx_outside.specs.Moments.{Moves}
use Rattle.qx_outside.specs.Puts.{IsAtRest}
use Rattle.qx_outside.specs.Outside.{Outside}
use Rattle.qx_outside.specs.Trail.{Deed, History, after, bytes_of, others_of, resized, sized}
use Rattle.qx_outside.proofs.Throughout.{moves_did, reaches_does, reaches_then, moves_then}
use Rattle.qx_make.specs.Stages.{IsInStage, MakesAll, PerformsAll, Stage, clear_stage, made_bytes, make_stages, new_stages, old_places, old_stages, rest_stage, zero_stages, zeroed}
use Rattle.qx_make.proofs.StagesInOrder.{moves_map, on_err, on_ok, reaches_map, rest_in}

-- a length that is set leaves a device at rest, and so does one that is refused
sized_rest : (bytes : List ℕ) (size : ℕ) (h : History) → IsAtRest bytes h → IsAtRest (resized bytes size) (after (sized size true) h)
sized_rest bytes size h rest = record { bytes_are = ap (λ (l : List ℕ). resized l size) rest.bytes_are; settled = record { quiet = rest.settled.quiet } }

refused_rest : (bytes : List ℕ) (size : ℕ) (h : History) → IsAtRest bytes h → IsAtRest bytes (after (sized size false) h)
refused_rest bytes size h rest = record { bytes_are = rest.bytes_are; settled = record { quiet = rest.settled.quiet } }

module _ (g : Geometry) (order : Order) (moment size : ℕ) (old : List ℕ) where
  -- the bytes before the length is set and after it, and all stages
  abbrev cleared : List ℕ
  cleared = zeroed old (old_places old)

  abbrev whole : List ℕ
  whole = resized cleared size

  abbrev stages : List Stage
  stages = make_stages g order moment size old

  abbrev all : List ℕ
  all = made_bytes g order moment size old

  -- those of the old areas are among them
  stages_split : old_stages old ++ new_stages g order moment whole ≡ stages
  stages_split = append_assoc (zero_stages old (old_places old)) (rest_stage cleared ∷ []) (new_stages g order moment whole)

  in_old : (h : History) → IsInStage (old_stages old) h → IsInStage stages h
  in_old h inside = record {
    stage = inside.stage;
    among = subst (λ (l : List Stage). Contains l inside.stage) stages_split (Contains-append_left (old_stages old) (new_stages g order moment whole) inside.stage inside.among);
    putting = inside.putting;
  }

  -- and those of the new volume
  new_among : (stage : Stage) → Contains (new_stages g order moment whole) stage → Contains stages stage
  new_among stage among = subst (λ (l : List Stage). Contains l stage) stages_split (Contains-append_right (old_stages old) (new_stages g order moment whole) stage among)

  in_new : (h : History) → IsInStage (new_stages g order moment whole) h → IsInStage stages h
  in_new h inside = record { stage = inside.stage; among = new_among inside.stage inside.among; putting = inside.putting }

  -- a rest before the length is set, and one after it
  rest_before : (h : History) → IsAtRest cleared h → IsInStage stages h
  rest_before h rest =
      rest_in stages (rest_stage cleared) cleared h
      (Contains-append_right (zero_stages old (old_places old)) (rest_stage cleared ∷ new_stages g order moment whole) (rest_stage cleared) (0, omega arith, refl)) refl rest

  rest_sized : (h : History) → IsAtRest whole h → IsInStage stages h
  rest_sized h rest = rest_in stages (clear_stage g whole) whole h (new_among (clear_stage g whole) (0, omega arith, refl)) refl rest

  -- the old areas are zeroed and the length is set
  record IsSized (a c : Outside) : Type 0 where
    moves : Moves (IsAtRest old) (IsAtRest whole) (IsInStage stages) a c
    bytes : IsTrue c.tells → bytes_of a.history ≡ old → bytes_of c.history ≡ whole
    others : IsTrue c.tells → others_of c.history.deeds ≡ sized size true ∷ others_of a.history.deeds

  is_sized : {T E : Type 0} (x : T) (a b c : Outside) → PerformsAll {E = E} old cleared (old_stages old) (Ok x) a b → Did (sized size true) b c → IsSized a c
  is_sized x a b c p did = record {
    moves =
        moves_did (IsAtRest old) (IsAtRest cleared) (IsAtRest whole) (IsInStage stages) (sized size true) (sized_rest cleared size) rest_sized a b c did
        (moves_map (IsAtRest old) (IsAtRest cleared) (IsInStage (old_stages old)) (IsInStage stages) in_old a b p.ok);
    bytes = λ told is. ap bytes_of (did.step told) ∙ ap (λ (l : List ℕ). resized l size) (p.kept_ok (did.before told) is).bytes_are;
    others = λ told. ap (λ (h : History). others_of h.deeds) (did.step told) ∙ ap (λ (l : List Deed). sized size true ∷ l) (p.others (did.before told));
  }

  module _ {T E : Type 0} where
    -- the old areas fail
    pub old_fails : (inner result : Result T E) (a b : Outside) → IsErr result → PerformsAll old cleared (old_stages old) inner a b → MakesAll size old all stages result a b
    old_fails inner result a b err p = record {
      reaches = reaches_map (IsAtRest old) (IsInStage (old_stages old)) (IsInStage stages) in_old a b p.reaches;
      ok = on_err result _ err;
      kept_ok = on_err result _ err;
      others = λ told. inl (p.others told);
    }

    -- the length is refused
    pub sizing_fails : (x : T) (result : Result T E) (a b c : Outside) → IsErr result → PerformsAll {E = E} old cleared (old_stages old) (Ok x) a b → MayDo (sized size false) b c → MakesAll size old all stages result a c
    sizing_fails x result a b c err p may = record {
      reaches =
          reaches_does (IsAtRest old) (IsAtRest cleared) (IsAtRest cleared) (IsInStage stages) (λ deed. deed ≡ sized size false)
          (λ h deed is rest. rest_before (after deed h) (subst (λ (d : Deed). IsAtRest cleared (after d h)) (sym is) (refused_rest cleared size h rest))) a b c
          (record {
            before = may.before;
            step = λ told. elim (may.step told) [
              | inl same ↦ inl same
              | inr did ↦ inr (sized size false, refl, did)
            ];
          })
          (moves_map (IsAtRest old) (IsAtRest cleared) (IsInStage (old_stages old)) (IsInStage stages) in_old a b p.ok);
      ok = on_err result _ err;
      kept_ok = on_err result _ err;
      others = λ told. elim (may.step told) [
        | inl same ↦ inl (ap (λ (h : History). others_of h.deeds) same ∙ p.others (may.before told))
        | inr did ↦ inr (false, ap (λ (h : History). others_of h.deeds) did ∙ ap (λ (l : List Deed). sized size false ∷ l) (p.others (may.before told)))
      ];
    }

    -- the new volume ends it
    pub volume_ends : (x y : T) (result : Result T E) (a b c d : Outside) → PerformsAll {E = E} old cleared (old_stages old) (Ok x) a b → Did (sized size true) b c
        → PerformsAll whole all (new_stages g order moment whole) result c d → MakesAll size old all stages result a d
    volume_ends x y result a b c d p did q =
        let s = is_sized x a b c p did in
        record {
          reaches = reaches_then (IsAtRest old) (IsAtRest whole) (IsAtRest whole) (IsInStage stages) a c d (reaches_map (IsAtRest whole) (IsInStage (new_stages g order moment whole)) (IsInStage stages) in_new c d q.reaches) s.moves;
          ok =
              on_ok result _ _
              (λ m. moves_then (IsAtRest old) (IsAtRest whole) (IsAtRest all) (IsInStage stages) a c d (moves_map (IsAtRest whole) (IsAtRest all) (IsInStage (new_stages g order moment whole)) (IsInStage stages) in_new c d m) s.moves) q.ok;
          kept_ok = on_ok result _ _ (λ f told is. f told (s.bytes (q.reaches.before told) is)) q.kept_ok;
          others = λ told. inr (true, q.others told ∙ s.others (q.reaches.before told));
        }
