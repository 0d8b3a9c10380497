pub mod TextAnswered
