pub mod NotAdmitted
