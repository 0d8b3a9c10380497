pub mod SessionAnswered
