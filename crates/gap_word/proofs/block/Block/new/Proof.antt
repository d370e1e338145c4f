-- The allocator is asked for an array's room, and what it gives is kept, or its refusal is handed on.
use Rattle.std.proofs.Common.{◌≡◌, ℕ, ◌*◌, ◌^◌, ◌<◌, true, false, [], ◌∷◌, ◌++◌, List, sym, refl, ap, subst, arith, lit<, w64, IfOk, Ok, Err}
use mir.Syntax.{Ty, Fn, Body}
use mir.Val.{Val, vint, vptr, vstruct, vcons, vnil, WT}
use mir.MapTy.{inst_fn}
use base.Logic.{SProp, emp}
use base.Fml.{Fml, ftrue, fsep, flft, Incl-trans}
use prog.Memory.{align, capped}
use prog.Capped.{capped_fits}
use prog.Wp.{Env, WpFn}
use types.Kit.{‵, raw, ◌⊛◌, later, prop, at_ret, ◌$◌, ◌∵◌, !, qed, by, move, keep, drop, use0, use1, use2, split, split3, join, regoal, fsplit, fjoin, fjoin3, fpack, await}
use types.Part.{whole, agg}
use types.Match.{live, vrt, in_variant}
use types.Run.{stop, fld, lit, size_word, align_word, no_more, and_then, of_opd, bin, first, switches_on, exec, returns, enter}
use types.ByLocal.{alloc_all, pass_all, free_all, look_at, get, get_in, get_tag, is, sets, sets_last, lands_as, env}
use contract.BorrowLft.{◌⊑◌}
use contract.Monad.{fact, fact_i}
use contract.Running.{tables}
use denote.Exit.{yes}
use denote.Builtin.{RefOf, usize}
use denote.Laws.{Is}
use denote.Param.{param}
use denote.RattleType.{RattleType, owns}
use denote.RawPtr.{Ptr, block_ptr}
use denote.Signature.{plain, types_at}
use denote.Steps.{nothing, heard, owned}
use denote.Struct.Declared as Declared
use denote.Struct.Struct.{Struct, Struct-Makes}
use denote.Triple.Call.{calls_at}
use denote.Triple.Walked.{Stays, stay_dropped, walk_of, Goes-dropped}
use Rattle.core.specs.contracts.alloc.AllocError as AE
use Rattle.core.specs.contracts.result.Result as RS
use Rattle.core.proofs.alloc.Calls.{Al, Answer-typed, Takes, at_takes, Answered, Takes-goes, Takes-gives, answers}
use Rattle.core.proofs.atomic.Steps.{fm}
use Rattle.core.proofs.mem.Param.{El, elτ}
use Rattle.core.proofs.slots.Bodies.{after, head, arm_body}
use Rattle.core.proofs.slots.Leases.{uncapped, block_ty, block_size, block_align, args}
use Rattle.core.proofs.slots.Places.{sz}
use Rattle.std.proofs.raw_atomic.Walks.{proved_at, leaves}
use Rattle.std_alloc.proofs.ResultValues.{ok_of, err_of}
use Rattle.gap_word.specs.Block.{Fits}
use Rattle.gap_word.specs.contracts.block.Block as block
use Rattle.gap_word.specs.contracts.block.Block.new.{ended, clauses}
use Rattle.gap_word.specs.contracts.block.Block.new.Key.{name as #self}
use Rattle.gap_word.proofs.Fields.{pointing, fields_at, pointing_made}
use Rattle.gap_word.proofs.Walks.{then_runs}
use Rattle.gap_word.proofs.block.Block.new.Statement.{statement}
use Rattle.gap_word.proofs.block.Block.new.Code as code

pub new_spec : {M : Type 1} → statement M
new_spec 𝓤 𝓛 𝓜 𝓡 wired X U L LU g d dd met _ =
    let H = 𝓛.H in
    let 𝓣 = tables 𝓤 H 𝓜 𝓡 𝓡.env in
    let Z : Al = record { row = U; laws = LU; g = g; d = d; drops = dd } in
    let E : El = record { row = X; laws = L } in
    let R : RattleType = param 0 X in
    let fn : Fn = inst_fn (args E Z) code.function in
    let Room : RattleType = block.the_row R (param 1 U) g in
    let Out : RattleType = RS.the_row Room AE.the_row in
    let Heap = RefOf (0 ∷ []) tt (plain (λ _. param 1 U)) (λ _. tt) in
    let Count = plain (λ _. usize) in
    let En = ended X U g d dd in
    let c = clauses X U g d dd 𝓛 𝓜.mem 𝓡.returns in
    let stays : Stays En.signature.params En.kept = (stay_dropped Heap yes, (stay_dropped Count yes, tt)) in
    proved_at 𝓛 En stays c 𝓜 𝓡
    (Goes-dropped 𝓛 3 Heap yes (λ κs x f. refl), (Goes-dropped 𝓛 3 Count yes (λ κs x f. refl), tt))
    (#self (args E Z)) fn (code.unfolded 𝓤 H 𝓜 𝓡 wired (X, (U, tt)) d dd) (λ z are.
    let Post : Val → SProp 𝓤 = (walk_of 𝓛 En stays c).post z in
    let κ = z.0.0.0 in
    let κA = z.0.0.1.1.0 in
    let q = z.0.1.0 in
    let others : Fml = fsep (flft z.0.0.1.0 z.0.1.1.0) (fsep (flft κA z.0.1.1.1.0) ftrue) in
    let a = z.0.3 in
    let heap : U.Denot = a.0.now in
    let from : ℕ × ℕ = a.0.ref_ptr in
    let n : ℕ = a.1.0 in
    let τ : Ty = block_ty E n in
    let size : ℕ = sz E in
    let Told : Out.Denot → Type 0 = λ r. IfOk r (λ b. (b.len ≡ n) × (b.heap ≡ heap)) in
    qed 𝓛 (((‵ (flft κ q) ⊛ ‵ others) ⊛ ‵ (owns (types_at En.signature.params z.0.0) a z.0.4))
    ∷ (raw (fact 𝓤 (z.0.0.1.0 ⊑ X.lives)) ⊛ raw (fact 𝓤 (κA ⊑ U.lives)) ⊛ raw (fact 𝓤 (Fits R n))) ∷ []) ∵
    move ! (1 ∷ []) $ split3 ! $ drop ! $ heard ! (κA ⊑ U.lives) (λ lives. heard ! (Fits R n) (λ fits.
    let less : n * size < 2 ^ 63 = fits.0 in
    let bytes : n * size < 2 ^ 64 = omega arith in
    let short = are.1.0.1 in
    -- [the allocator; its token; the other tokens]
    split ! $ split ! $ move ! (2 ∷ []) $ fsplit ! $ fsplit ! $ keep ! (1 ∷ 3 ∷ 4 ∷ []) $
    regoal ! (λ (us : List Val). prop (WpFn 𝓤 H 𝓣.C 𝓣.Λ fn us Post))
    (λ i. are.0.0 i ++ (are.1.0.0 i ++ [])) refl $
    enter ! 𝓣.C 𝓣.Λ fn (vptr from.0 from.1 ∷ vint w64 n ∷ []) Post $
    alloc_all ! (λ l. pass_all ! refl ((tt, tt), ((tt, record { fits = short }), tt)) $
    let Ev : Env 𝓤 H = env fn.locals l in
    let unit : ℕ = capped (align (elτ E)) in
    let arms : Body = head (after 2 fn.body) in
    let Then = then_runs 𝓛 𝓣.C 𝓣.Λ Ev (after 3 fn.body) (at_ret Ev Post) in
    let y = at_takes Z 𝓛 𝓜.mem 𝓡.returns κ q from heap (n * size) unit τ in
    sets ! (is ! (bin ! (get ! refl) (size_word !)
    (record { fits = subst (λ (k : ℕ). k < 2 ^ 64) (sym (uncapped n size bytes)) bytes }))
    (ap (vint w64) (uncapped n size bytes))) refl (tt, record { fits = bytes }) $
    use2 𝓛 (raw ((Takes Z 𝓛 𝓜.mem 𝓡.returns).pre y))
    (Takes-goes Z 𝓛 𝓜.mem 𝓡.returns κ q from heap (Incl-trans z.0.2.0 lives) (n * size) unit τ
    (block_size E n bytes) (block_align E n) bytes (capped_fits (align (elτ E)))) $
    calls_at ! (fm 𝓛 𝓜 𝓡) (Takes Z 𝓛 𝓜.mem 𝓡.returns) (met.allocate dd) y
    (and_then ! (get ! refl) (and_then ! (get ! refl) (and_then ! (align_word !) (no_more !)))) (λ v.
    use1 𝓛 (later (raw (Answered Z 𝓛 𝓜.mem 𝓡.returns heap τ v) ⊛ ‵ (flft κ q)))
    (Takes-gives Z 𝓛 𝓜.mem 𝓡.returns κ q from heap (n * size) unit τ v) $ await ! tt $ split ! $
    move ! (1 ∷ 2 ∷ []) $ join ! $ move ! (1 ∷ []) $ answers Z ! 𝓜.mem 𝓡.returns heap τ v
    (λ b o given.
    -- [the room; the right to free it; the tokens]
    let p : Ptr = block_ptr b o in
    let new : Room.Denot = record { ptr = p; by = record {}; len = n; heap = heap } in
    let answer : Val = live 0 (vcons (pointing p) vnil) in
    let typed : WT answer = (record { fits = lit< tt }, ((tt, (tt, tt)), tt)) in
    lands_as ! given refl (Answer-typed true b o) $ first ! $
    switches_on ! (get_tag ! (vrt ! refl (fld ! refl (stop !))) (whole !)) $
    exec ! 𝓣.C 𝓣.Λ Ev (arm_body 0 arms) Then $
    sets ! (of_opd ! (get_in ! (vrt ! refl (fld ! refl (stop !)))
    (in_variant ! 0 0 refl refl (whole !)))) refl (tt, tt) $
    sets ! (of_opd ! (get ! refl)) refl (tt, tt) $ sets ! (agg ! (no_more !)) refl (tt, tt) $
    sets ! (agg ! (and_then ! (get ! refl) (and_then ! (get ! refl) (no_more !)))) refl (tt, (tt, (tt, tt))) $
    sets_last ! (agg ! (and_then ! (lit ! tt) (and_then ! (get ! refl) (no_more !)))) refl (tt, typed) $
    exec ! 𝓣.C 𝓣.Λ Ev (after 3 fn.body) (at_ret Ev Post) $ sets ! (of_opd ! (get ! refl)) refl (tt, typed) $
    fjoin ! $ nothing ! $ fpack ! (Fits R n) (λ _. ftrue) fits $ fjoin ! $
    use0 𝓛 (‵ (fields_at p (pointing p ∷ []))) (pointing_made 𝓛 p) $ fjoin ! $
    use1 𝓛 (‵ (Out.own_val (Ok new) (answer ∷ []))) (ok_of 𝓛 Room AE.the_row new (pointing p)) $
    use0 𝓛 (raw (fact 𝓤 (Told (Ok new)))) (fact_i 𝓤 (Told (Ok new)) (emp 𝓤) (refl, refl)) $
    nothing ! $ nothing ! $ nothing ! $ fjoin3 ! $ returns ! (look_at ! 0 refl) $ free_all ! refl $
    keep ! (3 ∷ 0 ∷ 2 ∷ 1 ∷ []) $
    by ! (leaves 𝓛 En stays c z answer (Ok new) (tt, (tt, tt)) (tt, (tt, tt))))
    (λ refused.
    -- [the tokens]
    let error : Val = vstruct vnil in
    let answer : Val = live 1 (vcons error vnil) in
    let typed : WT answer = (record { fits = lit< tt }, (tt, tt)) in
    let Plain = Struct (Declared.shape AE.the_type) in
    lands_as ! refused refl (Answer-typed false 0 0) $ first ! $
    switches_on ! (get_tag ! (vrt ! refl (fld ! refl (stop !))) (whole !)) $
    exec ! 𝓣.C 𝓣.Λ Ev (arm_body 1 arms) Then $
    sets ! (of_opd ! (get_in ! (vrt ! refl (fld ! refl (stop !)))
    (in_variant ! 1 0 refl refl (whole !)))) refl (tt, tt) $
    sets_last ! (agg ! (and_then ! (lit ! tt) (and_then ! (get ! refl) (no_more !)))) refl (tt, typed) $
    exec ! 𝓣.C 𝓣.Λ Ev (after 3 fn.body) (at_ret Ev Post) $ sets ! (of_opd ! (get ! refl)) refl (tt, typed) $
    owned ! Plain (Is Plain) (Struct-Makes 𝓛 (Declared.shape AE.the_type) tt) tt (error ∷ [])
    (tt, (refl, tt)) $
    use1 𝓛 (‵ (Out.own_val (Err (record {})) (answer ∷ []))) (err_of 𝓛 Room AE.the_row (record {}) error) $
    use0 𝓛 (raw (fact 𝓤 (Told (Err (record {}))))) (fact_i 𝓤 (Told (Err (record {}))) (emp 𝓤) tt) $
    nothing ! $ nothing ! $ nothing ! $ fjoin3 ! $ returns ! (look_at ! 0 refl) $ free_all ! refl $
    keep ! (3 ∷ 0 ∷ 2 ∷ 1 ∷ []) $
    by ! (leaves 𝓛 En stays c z answer (Err (record {})) (tt, (tt, tt)) (tt, (tt, tt)))))))))
