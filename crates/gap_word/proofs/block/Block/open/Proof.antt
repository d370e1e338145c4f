-- The block's room becomes places that hold nothing, and the right to free it goes into the deed.
use Rattle.std.proofs.Common.{◌≡◌, ℕ, Bool, false, List, [], ◌∷◌, ◌++◌, replicate, refl, sym, ◌∙◌, w64}
use mir.Syntax.{Ty, Fn, ty_array, place}
use mir.Val.{Val, vint}
use mir.MapTy.{inst_fn}
use base.Logic.{SProp, emp, never, fst∗}
use base.Fml.{ftrue, fsep, froom, flft}
use prog.Wp.{Env, WpFn}
use types.Logic.{sem}
use types.Kit.{‵, raw, ◌⊛◌, some, given, later, prop, settles, at_ret, ◌$◌, ◌∵◌, !, qed, by, move, keep, drop, use0, use1, use2, split, split3, join, pick, learn, rewrite, regoal, fsplit, fsplit3, fjoin, fpick, fpack, await}
use types.Part.{whole, sub, agg}
use types.Run.{stop, fld, of_opd, no_more, and_then, first, blocks, exec, returns, enter}
use types.ByLocal.{alloc_all, pass_all, free_all, look_at, get, get_in, sets, lands_last, env}
use contract.BorrowLft.{◌⊑◌}
use contract.Monad.{fact, fact_i}
use contract.Running.{tables}
use denote.Exit.{yes, no}
use denote.Builtin.{usize}
use denote.Param.{param}
use denote.RattleType.{RattleType, owns}
use denote.RawPtr.{Ptr, null_ptr, block_ptr, room_for, in_a_block}
use denote.Signature.{plain, types_at}
use denote.Steps.{nothing, heard}
use denote.Struct.Tuple.{Tuple}
use denote.Triple.Call.{calls_at_last}
use denote.Triple.Walked.{Stays, stay_dropped, walk_of, Goes-dropped}
use lib.ListN.{length-replicate}
use Rattle.core.specs.Allocator.{array_of}
use Rattle.core.proofs.alloc.Calls.{Al, token}
use Rattle.core.proofs.atomic.Steps.{fm}
use Rattle.core.proofs.slots.Bodies.{after}
use Rattle.core.proofs.slots.Opens.{row_val}
use Rattle.core.proofs.slots.Runs.{of_space}
use Rattle.core.proofs.slots.Slots.from_raw_parts.Met as callee
use Rattle.std.proofs.raw_atomic.Walks.{proved_at, leaves}
use Rattle.gap_word.proofs.Walks.{then_runs, out_of_block}
use Rattle.std_alloc.proofs.Pairs.{pair_of, pair_val}
use Rattle.std_alloc.proofs.VecSteps.El.{El, args, elτ}
use Rattle.std_alloc.proofs.vec.Blocks.{el, all}
use Rattle.std_alloc.proofs.vec.Spares.{Row, From, at_from, Made, from_goes, from_gives}
use Rattle.gap_word.specs.Block.{Fits, block_owns}
use Rattle.gap_word.specs.contracts.block.Block as block
use Rattle.gap_word.specs.contracts.block.Deed as deed
use Rattle.gap_word.specs.contracts.block.Block.open.{ended, clauses}
use Rattle.gap_word.specs.contracts.block.Block.open.Key.{name as #self}
use Rattle.gap_word.proofs.Fields.{pointing, fields_at, pointing_told, pointing_made}
use Rattle.gap_word.proofs.block.Block.open.Statement.{statement}
use Rattle.gap_word.proofs.block.Block.open.Code as code

pub open_spec : {M : Type 1} → statement M
open_spec 𝓤 𝓛 𝓜 𝓡 wired X U L LU g d dd met _ =
    let H = 𝓛.H in
    let 𝓣 = tables 𝓤 H 𝓜 𝓡 𝓡.env in
    let Z : Al = record { row = U; laws = LU; g = g; d = d; drops = dd } in
    let E : El = record { row = X; laws = L; al = Z } in
    let R : RattleType = param 0 X in
    let fn : Fn = inst_fn (args E) code.function in
    let Right : RattleType = deed.the_row R (param 1 U) g in
    let Held = plain (λ _. block.the_row R (param 1 U) g) in
    let Count = plain (λ _. usize) in
    let En = ended X U g d dd in
    let c = clauses X U g d dd 𝓛 𝓜.mem 𝓡.returns in
    let stays : Stays En.signature.params En.kept = (stay_dropped Held no, (stay_dropped Count yes, tt)) in
    proved_at 𝓛 En stays c 𝓜 𝓡
    (Goes-dropped 𝓛 2 Held no (λ κs x f. refl), (Goes-dropped 𝓛 2 Count yes (λ κs x f. refl), tt))
    (#self (args E)) fn (code.unfolded 𝓤 H 𝓜 𝓡 wired (X, (U, tt)) d dd) (λ z are.
    let Post : Val → SProp 𝓤 = (walk_of 𝓛 En stays c).post z in
    let κ = z.0.0.0 in
    let q = z.0.1.0 in
    let a = z.0.3 in
    let vss = z.0.4 in
    let x = a.0 in
    let n : ℕ = a.1.0 in
    let τ : Ty = array_of R n in
    let Asked : Type 0 = (x.len ≡ n) × X.Denot in
    qed 𝓛 (((‵ (flft κ q) ⊛ ‵ (flft z.0.0.1.0 z.0.1.1.0) ⊛ ‵ ftrue)
    ⊛ ‵ (owns (types_at En.signature.params z.0.0) a vss))
    ∷ (raw (fact 𝓤 (κ ⊑ X.lives)) ⊛ raw (fact 𝓤 (z.0.0.1.0 ⊑ U.lives)) ⊛ raw (fact 𝓤 Asked)) ∷ []) ∵
    move ! (1 ∷ []) $ split3 ! $ heard ! (κ ⊑ X.lives) (λ lives. drop ! $ heard ! Asked (λ asked.
    -- [the block; the count; the tokens of both lifetimes]
    split ! $ split3 ! $ move ! (3 ∷ []) $ fsplit3 ! $ fsplit ! $ drop ! $
    rewrite ! 0 (λ (k : ℕ). ‵ (block_owns (token Z x.heap) R x.ptr k)) asked.0 refl $
    fsplit ! $ fpick ! (λ fits. drop ! $
    in_a_block ! x.ptr (λ r. fsep (room_for τ r) (token Z x.heap τ r))
    (fst∗ 𝓤 (never 𝓤) (sem 𝓛 (token Z x.heap τ null_ptr))) (λ b o at.
    let p : Ptr = block_ptr b o in
    let short = are.1.0.1 in
    let told = pointing_told x.ptr vss.0 are.0.0 ∙ (λ i. pointing (at i) ∷ []) in
    fsplit ! $ keep ! (0 ∷ 4 ∷ 1 ∷ 5 ∷ []) $
    regoal ! (λ (us : List Val). prop (WpFn 𝓤 H 𝓣.C 𝓣.Λ fn us Post))
    (λ i. told i ++ (are.1.0.0 i ++ [])) refl $
    enter ! 𝓣.C 𝓣.Λ fn (pointing p ∷ vint w64 n ∷ []) Post $
    alloc_all ! (λ l. pass_all ! refl ((tt, (tt, (tt, tt))), ((tt, record { fits = short }), tt)) $
    let Ev : Env 𝓤 H = env fn.locals l in
    let xs : List X.Denot = replicate n asked.1 in
    let fs : List Bool = replicate n false in
    let all_xs = length-replicate n asked.1 in
    let y = at_from E 𝓛 𝓜.mem 𝓡.returns κ q b o n xs fs in
    -- [the places; T's token; the right; A's token]
    use1 𝓛 (‵ (froom (ty_array (elτ E) n) b o)) (𝓛.laws.raw-room (ty_array (elτ E) n) b o) $
    use1 𝓛 (‵ (all E b o xs fs)) (of_space (el E) 𝓛 b o n xs all_xs) $
    sets ! (of_opd ! (get_in ! (fld ! refl (stop !)) (sub ! 0 refl (whole !)))) refl (tt, tt) $
    sets ! (of_opd ! (get_in ! (fld ! refl (stop !)) (sub ! 1 refl (whole !)))) refl (tt, tt) $
    first ! $ blocks ! $
    use2 𝓛 (raw ((From E 𝓛 𝓜.mem 𝓡.returns).pre y))
    (from_goes E 𝓛 𝓜.mem 𝓡.returns κ q b o n xs fs lives (sym all_xs)
    (sym (length-replicate n false)) short fits.0) $
    calls_at_last ! (fm 𝓛 𝓜 𝓡) (From E 𝓛 𝓜.mem 𝓡.returns)
    (callee.met 𝓤 𝓛 𝓜 𝓡 (code.calls-core::slots::Slots::from_raw_parts 𝓡.env wired) X L) y
    (and_then ! (get ! refl) (and_then ! (get ! refl) (no_more !))) (λ v.
    use1 𝓛 (later (some (λ (r : (Row E).Denot). given
    ((v ≡ row_val b o n) × Made E 𝓛 𝓜.mem 𝓡.returns κ q b o n xs fs r)
    (‵ ((Row E).own_val r (row_val b o n ∷ [])) ⊛ ‵ (flft κ q)))))
    (from_gives E 𝓛 𝓜.mem 𝓡.returns κ q b o n xs fs v) $
    await ! tt $ pick ! (λ r. learn ! (λ made. split ! $
    regoal ! (λ (u : Val). settles Ev (place 6 []) u
    (out_of_block 𝓛 (then_runs 𝓛 𝓣.C 𝓣.Λ Ev (after 3 fn.body) (at_ret Ev Post))))
    made.0 refl $ lands_last ! refl (tt, (tt, (record { fits = short }, tt))) $
    exec ! 𝓣.C 𝓣.Λ Ev (after 3 fn.body) (at_ret Ev Post) $
    sets ! (of_opd ! (get ! refl)) refl (tt, (tt, (record { fits = short }, tt))) $
    sets ! (of_opd ! (get ! refl)) refl (tt, (tt, (record { fits = short }, tt))) $
    sets ! (agg ! (and_then ! (get ! refl) (and_then ! (get ! refl) (no_more !)))) refl (tt, (tt, (tt, tt))) $
    sets ! (agg ! (and_then ! (get ! refl) (and_then ! (get ! refl) (no_more !)))) refl
    (tt, ((tt, (record { fits = short }, tt)), ((tt, (tt, tt)), tt))) $
    returns ! (look_at ! 0 refl) $ free_all ! refl $
    -- [the places; T's token; the right; A's token]
    let k : Right.Denot = record { ptr = p; by = record {}; len = n; heap = x.heap } in
    let Told : Type 0 = (r.len ≡ n) × (n ≡ n) × (p ≡ r.ptr) × (x.heap ≡ x.heap) in
    nothing ! $ move ! (4 ∷ 0 ∷ []) $ join ! $ move ! (2 ∷ 0 ∷ []) $ join ! $ move ! (2 ∷ []) $
    nothing ! $ fpack ! (Fits R n) (λ _. ftrue) fits $ fjoin ! $
    use0 𝓛 (‵ (fields_at p (pointing p ∷ []))) (pointing_made 𝓛 p) $ fjoin ! $ move ! (2 ∷ 0 ∷ []) $
    use2 𝓛 (‵ ((Tuple (Row E ∷ Right ∷ [])).own_val (r, k) (pair_val (row_val b o n) (pointing p) ∷ [])))
    (pair_of 𝓛 (Row E) Right r k (row_val b o n) (pointing p)) $
    use0 𝓛 (raw (fact 𝓤 Told)) (fact_i 𝓤 Told (emp 𝓤) (made.1.1, refl, sym made.1.0, refl)) $
    nothing ! $ nothing ! $ fjoin ! $ nothing ! $ fjoin ! $ move ! (3 ∷ 0 ∷ 2 ∷ 1 ∷ []) $
    by ! (leaves 𝓛 En stays c z (pair_val (row_val b o n) (pointing p)) (r, k) (tt, (tt, tt))
    (tt, (tt, tt))))))))))))
