-- Room changes nothing that the part stands for.
use Rattle.lx_serve.proofs.shared.SharedPart.reserve.Goals as goal

pub returns-in_err-reserve-clause-stays : goal.returns-in_err-reserve-clause-stays
returns-in_err-reserve-clause-stays g c = λ p s st. record { program = st.program; keeps = c.reserve.ensures.stays p s st.keeps; journal = st.journal }

pub returns-clause-stays : goal.returns-clause-stays
returns-clause-stays g c = λ p s st. record { program = st.program; keeps = c.reserve.ensures.stays p s st.keeps; journal = st.journal }
