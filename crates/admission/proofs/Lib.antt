pub mod Test
